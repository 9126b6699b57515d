use Rattle.std.proofs.Common.{◌≡◌, false, ap, sym, ◌∙◌}
use Rattle.std.specs.Prelude.{is_some}
use Rattle.cb_chain.proofs.Heights.{height_unknown, height_known, height_other, height_past}
use Rattle.cb_chain.proofs.chain.Chain.active_height.Goals as goal

pub returns-in_err-place-clause-height : goal.returns-in_err-place-clause-height
returns-in_err-place-clause-height c =
    c.from_residual.ensures ∙ height_unknown c.self.inside.tree.block_indexes c.args.self.now c.args.hash.now c.place.ensures.tree c.self.view_is c.in_err-place.ensures.place

pub returns-in-Some-clause-height : goal.returns-in-Some-clause-height
returns-in-Some-clause-height c =
    height_known c.self.inside.tree.block_indexes c.args.self.now c.args.hash.now c.deref.result.now c.in_ok-place.place _ c.in-Some.other.now
    c.block_index.ensures.tree c.self.view_is c.in_ok-place.ensures.place c.block_index.ensures.block_index (c.deref.ensures.value ∙ c.self.invariant.0.places)
    c.in-Some.ensures.lookup.0 c.in-Some.ensures.lookup.1 c.if-other-place.true

pub returns-in_default-clause-height : goal.returns-in_default-clause-height
returns-in_default-clause-height c =
    height_other c.self.inside.tree.block_indexes c.args.self.now c.args.hash.now c.deref.result.now c.in_ok-place.place _ c.in-Some.other.now
    c.block_index.ensures.tree c.self.view_is c.in_ok-place.ensures.place c.block_index.ensures.block_index (c.deref.ensures.value ∙ c.self.invariant.0.places)
    c.in-Some.ensures.lookup.0 c.in-Some.ensures.lookup.1 c.if-other-place.false

pub returns-in_default-2-clause-height : goal.returns-in_default-2-clause-height
returns-in_default-2-clause-height c =
    let absent : is_some c.get.result ≡ false = ap is_some c.in_default.is in
    height_past c.self.inside.tree.block_indexes c.args.self.now c.args.hash.now c.deref.result.now c.in_ok-place.place _
    c.block_index.ensures.tree c.self.view_is c.in_ok-place.ensures.place c.block_index.ensures.block_index (c.deref.ensures.value ∙ c.self.invariant.0.places) (sym absent ∙ c.get.ensures.lookup.0)
