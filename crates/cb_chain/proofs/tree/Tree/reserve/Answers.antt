use Rattle.std.proofs.Common.{◌≡◌, ◌∙◌, ℕ, length, ap, subst, sym, arith, List, rules}
use Rattle.cb_chain.specs.declared.block_index.BareIndex.{BareIndex}
use Rattle.cb_chain.specs.Keeping.{AreLinks, IsPlaced}
use Rattle.cb_chain.specs.Marking.{BlockIndex, with_marks}
use Rattle.cb_chain.proofs.BlockIndexes.{placed_like}
use Rattle.cb_chain.proofs.tree.Tree.reserve.Goals as goal

pub invariant_of-self-2 : goal.invariant_of-self-2
invariant_of-self-2 c =
    let old = with_marks c.self.inside.block_indexes.block_indexes c.self.inside.marks.items in
    let stays : with_marks c.reserve-2.new.self.block_indexes c.reserve.new.self.items ≡ old =
    ap (λ (bs : List BareIndex). with_marks bs c.reserve.new.self.items) c.reserve-2.ensures.same ∙ ap (with_marks c.self.inside.block_indexes.block_indexes) c.reserve.ensures.items in (
      subst (λ (ns : List BlockIndex). IsPlaced ns c.reserve-7.new.self.entries) (sym stays) (placed_like old c.self.inside.places.entries c.reserve-7.new.self.entries c.self.invariant.0 c.reserve-7.ensures.entries.2),
      subst (λ (ns : List BlockIndex). AreLinks ns c.reserve-3.new.self.items c.reserve-4.new.self.items) (sym stays)
          (subst (λ (ps : List ℕ). AreLinks old ps c.reserve-4.new.self.items) (sym c.reserve-3.ensures.items)
          (subst (AreLinks old c.self.inside.newest.items) (sym c.reserve-4.ensures.items) c.self.invariant.1)),
      search rules,
      omega (arith, ap length c.reserve-2.ensures.same, c.self.invariant.3, c.reserve.ensures.len),
    )
