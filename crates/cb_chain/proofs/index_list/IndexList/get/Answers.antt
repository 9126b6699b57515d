use Rattle.std.proofs.Common.{◌<◌, length, subst, sym, ap, ◌∙◌, arith}
use Rattle.std.specs.Prelude.{slice_get}
use Rattle.cb_chain.specs.Listing.{Listed, listed}
use Rattle.cb_chain.proofs.Chunks.{in_chunk, in_last, last_within}
use Rattle.cb_chain.proofs.index_list.IndexList.get.Goals as goal

pub returns-then-chunk-len : goal.returns-then-chunk-len
returns-then-chunk-len c =
    ap (λ (list : Listed). slice_get list.block_indexes c.args.place) (sym c.self.view_is)
    ∙ in_chunk c.self.inside.full.items c.self.inside.last.items c.index.result.now c.args.place c.self.invariant.0 (omega (arith, c.if-chunk-len.true, c.len.ensures, c.self.inside.full.ok.0)) c.index.ensures ∙ c.get.ensures

pub index-requires-2 : goal.index-requires-2
index-requires-2 c =
    let low : c.args.place < length (listed c.self.inside.full.items c.self.inside.last.items) = subst (λ (list : Listed). c.args.place < length list.block_indexes) (sym c.self.view_is) c.requires in
    let is = last_within c.self.inside.full.items c.self.inside.last.items c.args.place c.self.invariant.0
    (omega (arith, c.self.invariant.2, c.self.inside.last.ok.0)) low (omega (arith, c.if-chunk-len.false, c.len.ensures, c.self.inside.full.ok.0)) in
    omega (arith, is.1, c.self.inside.last.ok.0)

pub returns : goal.returns
returns c =
    let low : c.args.place < length (listed c.self.inside.full.items c.self.inside.last.items) = subst (λ (list : Listed). c.args.place < length list.block_indexes) (sym c.self.view_is) c.requires in
    ap (λ (list : Listed). slice_get list.block_indexes c.args.place) (sym c.self.view_is)
    ∙ in_last c.self.inside.full.items c.self.inside.last.items c.args.place c.index-2.result.now c.self.invariant.0
    (omega (arith, c.self.invariant.2, c.self.inside.last.ok.0)) low (omega (arith, c.if-chunk-len.false, c.len.ensures, c.self.inside.full.ok.0)) c.index-2.ensures
