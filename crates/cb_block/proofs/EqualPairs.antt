-- Whether the two hashes of a pair are equal, pair by pair.
use Rattle.std.proofs.Common.{◌≡◌, ℕ, ◌+◌, ◌*◌, ◌<◌, ◌≤◌, Bool, true, false, eqb, List, [], ◌∷◌, length, get_or, take, drop, sym, ap, subst, ◌∙◌, arith, inl, inr}
use Rattle.std.proofs.lemmas.List.{drop_more, length-take, length-drop, take-append-drop}
use Rattle.std.proofs.lemmas.Bool.{false≢true}
use lib.Pointwise.{pointwise, bytes_decides}
use Rattle.cb_base.specs.declared.hash.Hash256.{Hash256}
use Rattle.cb_block.specs.MerkleTree.{HasEqualPair}
use Rattle.cb_block.proofs.Raising.{equal_append, pair_in}

hash_same : (a b : Hash256) (r : Bool) → r ≡ pointwise eqb a.0 b.0 → r ≡ true → a ≡ b
hash_same a b r e t = ap (λ (x : List ℕ). record { 0 = x }) ((bytes_decides a.0 b.0).0 (sym e ∙ t))

hash_differs : (a b : Hash256) (r : Bool) → r ≡ pointwise eqb a.0 b.0 → r ≡ false → ¬ (a ≡ b)
hash_differs a b r e f same = false≢true (sym f ∙ e ∙ (bytes_decides a.0 b.0).1 (ap (λ (x : Hash256). x.0) same))

first_of : (a b : Hash256) (x y : List Hash256) → a ∷ x ≡ b ∷ y → a ≡ b
first_of a b x y e = cc

-- what is read within a level doesn't depend on what stands for a hash outside of it
same_read : (l : List Hash256) (i : ℕ) (d e : Hash256) → i < length l → get_or l i d ≡ get_or l i e
same_read l i d e lt = first_of (get_or l i d) (get_or l i e) (drop (i + 1) l) (drop (i + 1) l) (sym (drop_more l i d lt) ∙ drop_more l i e lt)

module _ (l : List Hash256) (k : ℕ) where
  pub all_seen : length l ≤ 2 * k + 1 → 2 * k ≤ length l → HasEqualPair l → HasEqualPair (take (2 * k) l)
  all_seen few many h =
      let front : length (take (2 * k) l) ≡ 2 * k = omega (arith, length-take (2 * k) l) in
      elim ((equal_append k (take (2 * k) l) (drop (2 * k) l) front).0 (subst HasEqualPair (sym (take-append-drop (2 * k) l)) h)) [
        | inl x ↦ x
        | inr y ↦ absurd (one_alone (drop (2 * k) l) (omega (arith, length-drop (2 * k) l)) y)
      ] where
        one_alone : (xs : List Hash256) → length xs ≤ 1 → HasEqualPair xs → ⊥
        one_alone [] le h = h
        one_alone (a ∷ []) le h = h
        one_alone (a ∷ b ∷ xs) le h = absurd (omega arith)

  -- an equal pair
  pair_equal : (a b : Hash256) (r : Bool) → 2 * k + 1 < length l → a ≡ get_or l (2 * k) a → b ≡ get_or l (2 * k + 1) b
      → r ≡ pointwise eqb a.0 b.0 → r ≡ true → HasEqualPair l
  pair_equal a b r lt ea eb is same =
      let front : length (take (2 * k) l) ≡ 2 * k = omega (arith, length-take (2 * k) l) in
      let more : HasEqualPair (take (2 * (k + 1)) l) = subst HasEqualPair (sym (pair_in l k a b lt ea eb)) ((equal_append k (take (2 * k) l) (a ∷ b ∷ []) front).1 (inr (inl (hash_same a b r is same)))) in
      let many : length (take (2 * (k + 1)) l) ≡ 2 * (k + 1) = omega (arith, length-take (2 * (k + 1)) l) in
      subst HasEqualPair (take-append-drop (2 * (k + 1)) l) ((equal_append (k + 1) (take (2 * (k + 1)) l) (drop (2 * (k + 1)) l) many).1 (inl more))

  -- one pair more that isn't
  pair_differs : (a b : Hash256) (r : Bool) → 2 * k + 1 < length l → a ≡ get_or l (2 * k) a → b ≡ get_or l (2 * k + 1) b
      → r ≡ pointwise eqb a.0 b.0 → r ≡ false → (HasEqualPair (take (2 * k) l) → ⊥) → HasEqualPair (take (2 * (k + 1)) l) → ⊥
  pair_differs a b r lt ea eb is differ none h =
      let front : length (take (2 * k) l) ≡ 2 * k = omega (arith, length-take (2 * k) l) in
      elim ((equal_append k (take (2 * k) l) (a ∷ b ∷ []) front).0 (subst HasEqualPair (pair_in l k a b lt ea eb) h)) [
        | inl x ↦ none x
        | inr y ↦ elim y [ inl z ↦ hash_differs a b r is differ z | inr w ↦ w ]
      ]

  -- the same, as they are read in place
  pub read_equal : (d e : Hash256) (r : Bool) → 2 * k + 1 < length l → r ≡ pointwise eqb (get_or l (2 * k) d).0 (get_or l (2 * k + 1) e).0 → r ≡ true → HasEqualPair l
  read_equal d e r lt = pair_equal (get_or l (2 * k) d) (get_or l (2 * k + 1) e) r lt (same_read l (2 * k) d (get_or l (2 * k) d) (omega arith)) (same_read l (2 * k + 1) e (get_or l (2 * k + 1) e) lt)

  pub read_differs : (d e : Hash256) (r : Bool) → 2 * k + 1 < length l → r ≡ pointwise eqb (get_or l (2 * k) d).0 (get_or l (2 * k + 1) e).0 → r ≡ false
      → (HasEqualPair (take (2 * k) l) → ⊥) → HasEqualPair (take (2 * (k + 1)) l) → ⊥
  read_differs d e r lt = pair_differs (get_or l (2 * k) d) (get_or l (2 * k + 1) e) r lt (same_read l (2 * k) d (get_or l (2 * k) d) (omega arith)) (same_read l (2 * k + 1) e (get_or l (2 * k + 1) e) lt)
