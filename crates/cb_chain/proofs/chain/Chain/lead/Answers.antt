use Rattle.std.proofs.Common.{◌≡◌, ◌-◌, Some, ap, sym, subst, ◌∙◌, arith}
use Rattle.cb_chain.specs.Best.{best}
use Rattle.cb_chain.specs.Entries.{Tree}
use Rattle.cb_chain.specs.Keeping.{place_of, tree_of}
use Rattle.cb_chain.proofs.Starts.{tip_at}
use Rattle.cb_chain.proofs.Undos.{place_one}
use Rattle.cb_chain.proofs.chain.Chain.lead.Goals as goal

pub extend-requires-clause-tip : goal.extend-requires-clause-tip
extend-requires-clause-tip c =
    let was = c.self.inside in
    let tip = tip_at (tree_of was.tree.block_indexes) was.active.items (c.len.result - 1) c.index.result.now c.self.invariant.0.places (omega (arith, c.len.ensures, was.active.ok.0)) c.index.ensures in
    place_one c.args.self.now c.args.kept.header.prev (best c.args.self.now) c.args.spot.parent c.requires.spot.parent (subst (λ (t : Tree). place_of t (best t) ≡ Some c.args.spot.parent) c.self.view_is (tip ∙ ap Some (sym c.if-spot-index.true)))
