use Rattle.std.proofs.Common.{◌≡◌, ◌∙◌, length, ℕ, List, ap, subst, sym, rules, arith}
use Rattle.cb_chain.specs.declared.block_index.BareIndex.{BareIndex}
use Rattle.cb_chain.specs.Keeping.{AreLinks, Grown, IsPlaced}
use Rattle.cb_chain.specs.Marking.{BlockIndex, with_marks}
use Rattle.cb_chain.proofs.BlockIndexes.{entries_like}
use Rattle.cb_chain.proofs.tree.Tree.copy.Goals as goal

pub invariant_of-result : goal.invariant_of-result
invariant_of-result c =
    let copied : with_marks c.in_ok-block_indexes.block_indexes.block_indexes c.in_ok-marks.marks.items ≡ with_marks c.self.inside.block_indexes.block_indexes c.self.inside.marks.items =
    ap (λ (bs : List BareIndex). with_marks bs c.in_ok-marks.marks.items) c.in_ok-block_indexes.ensures.same ∙ ap (with_marks c.self.inside.block_indexes.block_indexes) (c.in_ok-marks.ensures.items ∙ c.as_slice-4.ensures.value) in
    let old = with_marks c.self.inside.block_indexes.block_indexes c.self.inside.marks.items in
    let places = entries_like c.self.inside.places.entries c.in_ok-places.places.entries c.in_ok-places.ensures.cases in (
      subst (λ es. IsPlaced (with_marks c.in_ok-block_indexes.block_indexes.block_indexes c.in_ok-marks.marks.items) es) (sym places) (subst (λ (ns : List BlockIndex). IsPlaced ns c.self.inside.places.entries) (sym copied) c.self.invariant.0),
      subst (λ (ns : List BlockIndex). AreLinks ns c.in_ok-newest.newest.items c.in_ok-elder.elder.items) (sym copied)
          (subst (λ (ps : List ℕ). AreLinks old ps c.in_ok-elder.elder.items) (sym (c.in_ok-newest.ensures.items ∙ c.as_slice.ensures.value))
          (subst (AreLinks old c.self.inside.newest.items) (sym (c.in_ok-elder.ensures.items ∙ c.as_slice-2.ensures.value)) c.self.invariant.1)),
      search rules,
      omega (arith, ap length c.in_ok-block_indexes.ensures.same, ap length (c.in_ok-marks.ensures.items ∙ c.as_slice-4.ensures.value), c.self.invariant.3, c.self.inside.marks.ok.0, c.in_ok-marks.marks.ok.0),
    )

pub returns-clause-same : goal.returns-clause-same
returns-clause-same c =
    let copied : with_marks c.in_ok-block_indexes.block_indexes.block_indexes c.in_ok-marks.marks.items ≡ with_marks c.self.inside.block_indexes.block_indexes c.self.inside.marks.items =
    ap (λ (bs : List BareIndex). with_marks bs c.in_ok-marks.marks.items) c.in_ok-block_indexes.ensures.same ∙ ap (with_marks c.self.inside.block_indexes.block_indexes) (c.in_ok-marks.ensures.items ∙ c.as_slice-4.ensures.value) in
    copied ∙ ap (λ (g : Grown). g.block_indexes) c.self.view_is
