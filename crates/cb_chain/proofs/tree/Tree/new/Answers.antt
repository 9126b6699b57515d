use Rattle.std.proofs.Common.{ℕ, Bool, subst, sym, ◌∙◌, ◌≡◌, ap, List, cond, false, []}
use Rattle.std.proofs.Common.{Some, ◌++◌, ◌∷◌, arith, length, rules, vec_len}
use Rattle.std.specs.Map.{lookup}
use Rattle.cb_base.specs.declared.hash.Hash256.{Hash256}
use Rattle.cb_chain.specs.declared.block_index.BareIndex.{BareIndex}
use Rattle.cb_chain.specs.Entries.{same}
use Rattle.cb_chain.specs.Keeping.{AreLinks, IsPlaced}
use Rattle.cb_chain.specs.Marking.{BlockIndex, index_of, with_marks}
use Rattle.cb_chain.proofs.Links.{links_first}
use Rattle.cb_chain.proofs.BlockIndexes.{placed_first}
use Rattle.cb_chain.proofs.tree.Tree.new.Goals as goal

first_alone : (c : goal.After-push-5) → with_marks c.push-5.new.self.block_indexes c.push-4.new.self.items ≡ index_of c.in_ok-first.first false ∷ []
first_alone c =
    let bares = c.push-5.ensures.block_indexes ∙ ap (λ (bs : List BareIndex). bs ++ c.in_ok-first.first ∷ []) c.in_ok-block_indexes.ensures.block_indexes in
    let marks = c.in_ok-push-4.ensures.items ∙ ap (λ (ms : List Bool). ms ++ false ∷ []) c.in_ok-marks.ensures.items in
    ap (λ (bs : List BareIndex). with_marks bs c.push-4.new.self.items) bares ∙ ap (with_marks (c.in_ok-first.first ∷ [])) marks

one_long : (c : goal.After-push-5) → length c.push-5.new.self.block_indexes ≡ vec_len c.push-4.new.self
one_long c =
    let bares = c.push-5.ensures.block_indexes ∙ ap (λ (bs : List BareIndex). bs ++ c.in_ok-first.first ∷ []) c.in_ok-block_indexes.ensures.block_indexes in
    let marks = c.in_ok-push-4.ensures.items ∙ ap (λ (ms : List Bool). ms ++ false ∷ []) c.in_ok-marks.ensures.items in
    omega (arith, ap length bares, ap length marks, c.push-4.new.self.ok.0)

pub invariant_of-result : goal.invariant_of-result
invariant_of-result c =
    let first = index_of c.in_ok-first.first false in
    let updates = c.in_ok-insert.ensures.updates in (
      subst (λ (ns : List BlockIndex). IsPlaced ns c.insert.new.self.entries) (sym (first_alone c))
          (placed_first first c.insert.new.self.entries c.in_ok-first.ensures.first
          (λ q. updates.0 q ∙ ap (λ es. cond (same first.hash q) (Some 0) (lookup {K = Hash256} {X = ℕ} (same q) es)) c.with_hasher-places.ensures.empty)),
      subst (λ (ns : List BlockIndex). AreLinks ns c.push.new.self.items c.push-2.new.self.items) (sym (first_alone c))
          (subst (λ (ps : List ℕ). AreLinks (first ∷ []) ps c.push-2.new.self.items) (sym (c.in_ok-push.ensures.items ∙ ap (λ (ps : List ℕ). ps ++ 0 ∷ []) c.in_ok-newest.ensures.items))
          (subst (AreLinks (first ∷ []) (0 ∷ [])) (sym (c.in_ok-push-2.ensures.items ∙ ap (λ (ps : List ℕ). ps ++ 0 ∷ []) c.in_ok-elder.ensures.items)) (links_first first))),
      search rules,
      one_long c,
    )
