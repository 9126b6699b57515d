use Rattle.std.proofs.Common.{◌≡◌, ◌∙◌, List, Some, length, sym, ap, subst, arith}
use Rattle.std.specs.Prelude.{slice_get, IsSome}
use Rattle.cb_chain.specs.Calls.{marked_above}
use Rattle.cb_chain.specs.Keeping.{AreLinks, Grown, IsPlaced, IsTree, block_at, tree_of}
use Rattle.cb_chain.specs.Marking.{BlockIndex, with_marks}
use Rattle.cb_chain.proofs.Links.{links_marked}
use Rattle.cb_chain.proofs.Marks.{is_marked_tree, length_marked, placed_marked, target_at, tree_marked}
use Rattle.cb_chain.proofs.Pairs.{lent_are, lent_marks}
use Rattle.cb_chain.proofs.tree.Tree.mark_above.Goals as goal

pub mark_from-requires-clause-tree : goal.mark_from-requires-clause-tree
mark_from-requires-clause-tree c =
    let bares = c.self.inside.block_indexes.block_indexes in
    let marks = c.self.inside.marks.items in
    let old = with_marks bares marks in
    let long : length bares ≡ length marks = omega (arith, c.self.invariant.3, c.self.inside.marks.ok.0) in
    let kept : IsSome (block_at old c.args.first) = subst (λ (g : Grown). IsSome (block_at g.block_indexes c.args.first)) (sym c.self.view_is) c.requires.kept in
    let is = lent_are bares marks c.as_mut_slice.result.now c.self.inside.newest.items c.self.inside.elder.items c.as_slice.result.now c.as_slice-2.result.now c.args.first long c.self.invariant.0.tree c.self.invariant.1 kept
    c.as_mut_slice.ensures.value c.as_slice.ensures.value c.as_slice-2.ensures.value in
    (old, is)

pub mark_from-requires-clause-room : goal.mark_from-requires-clause-room
mark_from-requires-clause-room c = omega (arith, ap length c.as_mut_slice.ensures.value, c.self.invariant.2, c.self.inside.marks.ok.0)

pub invariant_of-self : goal.invariant_of-self
invariant_of-self c =
    let bares = c.self.inside.block_indexes.block_indexes in
    let marks = c.self.inside.marks.items in
    let old = with_marks bares marks in
    let long : length bares ≡ length marks = omega (arith, c.self.invariant.3, c.self.inside.marks.ok.0) in
    let kept : IsSome (block_at old c.args.first) = subst (λ (g : Grown). IsSome (block_at g.block_indexes c.args.first)) (sym c.self.view_is) c.requires.kept in
    let is = lent_are bares marks c.as_mut_slice.result.now c.self.inside.newest.items c.self.inside.elder.items c.as_slice.result.now c.as_slice-2.result.now c.args.first long c.self.invariant.0.tree c.self.invariant.1 kept
    c.as_mut_slice.ensures.value c.as_slice.ensures.value c.as_slice-2.ensures.value in
    let target = target_at old c.args.first kept in
    let new =
    lent_marks bares marks c.as_mut_slice.result.now c.mark_from.new.marks c.self.inside.marks.len target.0.hash long c.self.inside.marks.ok.0 c.as_mut_slice.ensures.value c.mark_from.ensures.len
    (c.mark_from.ensures.marks old target.0 is target.1) in (
      subst (λ (ns : List BlockIndex). IsPlaced ns c.self.inside.places.entries) (sym new) (placed_marked target.0.hash old c.self.inside.places.entries c.self.invariant.0),
      subst (λ (ns : List BlockIndex). AreLinks ns c.self.inside.newest.items c.self.inside.elder.items) (sym new)
          (links_marked target.0.hash old c.self.inside.newest.items c.self.inside.elder.items c.self.invariant.1),
      omega (arith, c.mark_from.ensures.room, c.self.invariant.2),
      c.self.invariant.3,
    )

pub returns-clause-marks : goal.returns-clause-marks
returns-clause-marks c = λ target at.
    let bares = c.self.inside.block_indexes.block_indexes in
    let marks = c.self.inside.marks.items in
    let old = with_marks bares marks in
    let long : length bares ≡ length marks = omega (arith, c.self.invariant.3, c.self.inside.marks.ok.0) in
    let kept : IsSome (block_at old c.args.first) = subst (λ (g : Grown). IsSome (block_at g.block_indexes c.args.first)) (sym c.self.view_is) c.requires.kept in
    let is = lent_are bares marks c.as_mut_slice.result.now c.self.inside.newest.items c.self.inside.elder.items c.as_slice.result.now c.as_slice-2.result.now c.args.first long c.self.invariant.0.tree c.self.invariant.1 kept
    c.as_mut_slice.ensures.value c.as_slice.ensures.value c.as_slice-2.ensures.value in
    let there : slice_get old c.args.first ≡ Some target = ap (λ (g : Grown). slice_get g.block_indexes c.args.first) c.self.view_is ∙ at in
    ap tree_of
    (lent_marks bares marks c.as_mut_slice.result.now c.mark_from.new.marks c.self.inside.marks.len target.hash long c.self.inside.marks.ok.0 c.as_mut_slice.ensures.value c.mark_from.ensures.len
    (c.mark_from.ensures.marks old target is there))
    ∙ tree_marked target.hash old ∙ ap (λ (g : Grown). marked_above target.hash (tree_of g.block_indexes)) c.self.view_is

pub returns-clause-len : goal.returns-clause-len
returns-clause-len c =
    let bares = c.self.inside.block_indexes.block_indexes in
    let marks = c.self.inside.marks.items in
    let old = with_marks bares marks in
    let long : length bares ≡ length marks = omega (arith, c.self.invariant.3, c.self.inside.marks.ok.0) in
    let kept : IsSome (block_at old c.args.first) = subst (λ (g : Grown). IsSome (block_at g.block_indexes c.args.first)) (sym c.self.view_is) c.requires.kept in
    let is = lent_are bares marks c.as_mut_slice.result.now c.self.inside.newest.items c.self.inside.elder.items c.as_slice.result.now c.as_slice-2.result.now c.args.first long c.self.invariant.0.tree c.self.invariant.1 kept
    c.as_mut_slice.ensures.value c.as_slice.ensures.value c.as_slice-2.ensures.value in
    let target = target_at old c.args.first kept in
    let new =
    lent_marks bares marks c.as_mut_slice.result.now c.mark_from.new.marks c.self.inside.marks.len target.0.hash long c.self.inside.marks.ok.0 c.as_mut_slice.ensures.value c.mark_from.ensures.len
    (c.mark_from.ensures.marks old target.0 is target.1) in
    ap length new ∙ length_marked target.0.hash old ∙ ap (λ (g : Grown). length g.block_indexes) c.self.view_is

pub returns-clause-tree : goal.returns-clause-tree
returns-clause-tree c =
    let bares = c.self.inside.block_indexes.block_indexes in
    let marks = c.self.inside.marks.items in
    let old = with_marks bares marks in
    let long : length bares ≡ length marks = omega (arith, c.self.invariant.3, c.self.inside.marks.ok.0) in
    let kept : IsSome (block_at old c.args.first) = subst (λ (g : Grown). IsSome (block_at g.block_indexes c.args.first)) (sym c.self.view_is) c.requires.kept in
    let is = lent_are bares marks c.as_mut_slice.result.now c.self.inside.newest.items c.self.inside.elder.items c.as_slice.result.now c.as_slice-2.result.now c.args.first long c.self.invariant.0.tree c.self.invariant.1 kept
    c.as_mut_slice.ensures.value c.as_slice.ensures.value c.as_slice-2.ensures.value in
    let target = target_at old c.args.first kept in
    let new =
    lent_marks bares marks c.as_mut_slice.result.now c.mark_from.new.marks c.self.inside.marks.len target.0.hash long c.self.inside.marks.ok.0 c.as_mut_slice.ensures.value c.mark_from.ensures.len
    (c.mark_from.ensures.marks old target.0 is target.1) in
    subst IsTree (sym new) (is_marked_tree target.0.hash old c.self.invariant.0.tree)
