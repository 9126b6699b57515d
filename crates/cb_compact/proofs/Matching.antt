-- Transactions that are looked for by their short ids.
use Rattle.std.proofs.Common.{◌≡◌, ◌∙◌, ℕ, nat_eq, Bool, true, false, ◌||◌, ◌==◌, cond, List, [], ◌∷◌, ◌++◌, map, refl, sym, ap, inl, inr}
use Rattle.std.specs.Prelude.{filter}
use Rattle.std.proofs.lemmas.Bool.{cases_Bool}
use Rattle.std.proofs.lemmas.List.Folds.{list_any-append}
use Rattle.cb_block.specs.declared.tx.Tx.{Tx}
use Rattle.cb_compact.specs.Slots.{is_among}
use Rattle.cb_compact.specs.declared.named_tx.Pair.{Pair}
use Rattle.cb_compact.specs.Matching.{pair_of, pairs_of}

alike : {X : Type 0} (p q : X → Bool) (xs : List X) → ((x : X) → p x ≡ q x) → filter p xs ≡ filter q xs
alike p q [] same = refl
alike p q (x ∷ xs) same =
    elim (cases_Bool (p x)) [
      | inl is ↦ let there : q x ≡ true = sym (same x) ∙ is in rw (is, there) (ap (λ l. x ∷ l) (alike p q xs same))
      | inr isnt ↦ let there : q x ≡ false = sym (same x) ∙ isnt in rw (isnt, there) (alike p q xs same)
    ]

-- those whose ids stand in a set of the ids
pub found_in : (key : ℕ × ℕ) (ids : List ℕ) (txs : List Tx) (wanted : ℕ → Bool) (list : List Pair) → ((id : ℕ) → wanted id ≡ is_among id ids)
    → list ≡ filter (λ pair. wanted pair.id) (map (pair_of key) txs) → list ≡ pairs_of key ids txs
unfolding pairs_of
found_in key ids txs wanted list same is =
    is ∙ alike (λ (pair : Pair). wanted pair.id) (λ (pair : Pair). is_among pair.id ids) (map (pair_of key) txs) (λ (pair : Pair). same pair.id)

-- an id more in a set
in_either : (there here : Bool) → cond here true there ≡ (there || (here || false))
in_either true true = refl
in_either true false = refl
in_either false true = refl
in_either false false = refl

pub set_more : (old new : ℕ → Bool) (ids : List ℕ) (id : ℕ) → ((other : ℕ) → new other ≡ cond (nat_eq id other) true (old other)) → ((other : ℕ) → old other ≡ is_among other ids)
    → (other : ℕ) → new other ≡ is_among other (ids ++ id ∷ [])
set_more old new ids id updates there other =
    updates other ∙ ap (cond (id == other) true) (there other) ∙ in_either (is_among other ids) (id == other)
    ∙ sym (list_any-append (λ it. it == other) ids (id ∷ []))
