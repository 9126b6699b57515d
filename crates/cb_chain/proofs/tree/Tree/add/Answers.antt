use Rattle.std.proofs.Common.{◌≡◌, ◌<◌, ◌+◌, ◌∷◌, ◌++◌, [], ℕ, Some, ap, drop, subst, sym, ◌∙◌, List, length, length-append, rules, arith}
use Rattle.std.proofs.lemmas.List.{take_at}
use Rattle.cb_chain.specs.declared.block_index.BareIndex.{BareIndex}
use Rattle.cb_chain.specs.Keeping.{AreLinks, IsPlaced, IsIndex, Grown, tree_of}
use Rattle.cb_chain.specs.Marking.{BlockIndex, index_of, with_marks}
use Rattle.cb_chain.proofs.BlockIndexes.{place_within, placed_more}
use Rattle.cb_chain.proofs.Pairs.{length_with, with_more}
use Rattle.cb_chain.proofs.tree.Tree.add.Goals as goal

pub put_above-elder-requires : goal.put_above-elder-requires
put_above-elder-requires c =
    let old = with_marks c.self.inside.block_indexes.block_indexes c.self.inside.marks.items in
    let block_index = index_of c.args.block_index c.args.marked in
    let fits : IsIndex block_index (tree_of old) = subst (λ (g : Grown). IsIndex block_index (tree_of g.block_indexes)) (sym c.self.view_is) c.requires.block_index in
    let low = place_within old c.args.block_index.header.prev (Some c.args.block_index.parent) c.self.invariant.0.tree (sym fits.parent) in
    let long : length c.as_mut_slice.result.now ≡ length old = ap length c.as_mut_slice.ensures.value ∙ c.self.invariant.1.newest_long in
    subst (λ (n : ℕ). c.args.block_index.parent < n) (sym long) low

grown : (c : goal.After-push-5) → with_marks c.push-5.new.self.block_indexes c.push-4.new.self.items ≡ with_marks c.self.inside.block_indexes.block_indexes c.self.inside.marks.items ++ index_of c.args.block_index c.args.marked ∷ []
grown c =
    let bares = c.self.inside.block_indexes.block_indexes in
    let marks = c.self.inside.marks.items in
    let long : length bares ≡ length marks = omega (arith, c.self.invariant.3, c.self.inside.marks.ok.0) in
    let pushed = rw c.unwrap-5.ensures at c.push-4.ensures.items in
    ap (λ (bs : List BareIndex). with_marks bs c.push-4.new.self.items) c.push-5.ensures.block_indexes ∙ ap (with_marks (bares ++ c.args.block_index ∷ [])) pushed ∙ with_more bares marks c.args.block_index c.args.marked long

pub returns-clause-block_indexes : goal.returns-clause-block_indexes
returns-clause-block_indexes c = grown c ∙ ap (λ (g : Grown). g.block_indexes ++ index_of c.args.block_index c.args.marked ∷ []) c.self.view_is

pub invariant_of-self : goal.invariant_of-self
invariant_of-self c =
    let bares = c.self.inside.block_indexes.block_indexes in
    let marks = c.self.inside.marks.items in
    let long : length bares ≡ length marks = omega (arith, c.self.invariant.3, c.self.inside.marks.ok.0) in
    let old = with_marks bares marks in
    let block_index = index_of c.args.block_index c.args.marked in
    let updates = rw c.unwrap-4.ensures at c.insert-noted.ensures.updates in
    let newest = rw c.unwrap.ensures at c.push.ensures.items in
    let elder = rw c.unwrap-2.ensures at c.push-2.ensures.items in
    let marked = rw c.unwrap-5.ensures at c.push-4.ensures.items in
    let fits : IsIndex block_index (tree_of old) = subst (λ (g : Grown). IsIndex block_index (tree_of g.block_indexes)) (sym c.self.view_is) c.requires.block_index in
    let last : c.len-place.result ≡ length old = omega (arith, c.len-place.ensures, c.self.inside.marks.ok.0, length_with bares marks long) in
    let put = c.put_above-elder.new.newest in
    let lent = take_at put (drop (length put) c.self.inside.newest.items) c.self.inside.newest.len
    (c.put_above-elder.ensures.len ∙ ap length c.as_mut_slice.ensures.value ∙ sym c.self.inside.newest.ok.0) in
    let links =
    c.put_above-elder.ensures.links old c.self.inside.elder.items c.args.marked last c.self.invariant.0.tree fits
    (subst (λ (ps : List ℕ). AreLinks old ps c.self.inside.elder.items) (sym c.as_mut_slice.ensures.value) c.self.invariant.1) in
    let more : length c.push-5.new.self.block_indexes ≡ length marks + 1 = ap length c.push-5.ensures.block_indexes ∙ length-append bares (c.args.block_index ∷ []) ∙ ap (λ (n : ℕ). n + 1) long in
    let most : length c.push-4.new.self.items ≡ length marks + 1 = ap length marked ∙ length-append marks (c.args.marked ∷ []) in (
      subst (λ (ns : List BlockIndex). IsPlaced ns c.insert-noted.new.self.entries) (sym (grown c))
          (placed_more old block_index c.self.inside.places.entries c.insert-noted.new.self.entries c.len-place.result c.self.invariant.0 fits last updates.0),
      subst (λ (ns : List BlockIndex). AreLinks ns c.push.new.self.items c.push-2.new.self.items) (sym (grown c))
          (subst (λ (ps : List ℕ). AreLinks (old ++ block_index ∷ []) ps c.push-2.new.self.items) (sym (newest ∙ ap (λ (ps : List ℕ). ps ++ 0 ∷ []) lent))
          (subst (AreLinks (old ++ block_index ∷ []) (put ++ 0 ∷ [])) (sym elder) links)),
      search rules,
      omega (arith, more, most, c.push-4.new.self.ok.0),
    )
