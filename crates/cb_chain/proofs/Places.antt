-- Numbers, and lists by their places.
use Rattle.std.proofs.Common.{◌≡◌, ℕ, zero, suc, ◌<◌, Bool, true, false, cond, List, [], ◌∷◌, ◌++◌, length, Some, None, refl, sym, ap, ◌∙◌, arith, inl, inr}
use Rattle.std.specs.Prelude.{nat_eq, reverse, slice_get}
use Rattle.std.proofs.lemmas.Bool.Decides.{nat_tests}
use Rattle.std.proofs.lemmas.List.{length-reverse}
use Rattle.std.proofs.lemmas.Option.{same_Some}
use Rattle.std.proofs.Math.ListN.{set}
use Rattle.cb_base.specs.declared.hash.Hash256.{Hash256}
use Rattle.cb_chain.specs.Marking.{BlockIndex}
use Rattle.cb_chain.specs.Entries.{Tree, block_hash, genesis_hash, same}
use Rattle.cb_chain.specs.Keeping.{place_of}
use Rattle.cb_chain.proofs.BlockIndexes.{chosen, reverse_cons}

-- ---- numbers

pub eq_true : (a b : ℕ) → nat_eq a b ≡ true → a ≡ b
eq_true a b w = grind (arith, nat_tests)

pub eq_same : (a b : ℕ) → a ≡ b → nat_eq a b ≡ true
eq_same a b e = grind (arith, nat_tests)

pub eq_less : (a b : ℕ) → a < b → nat_eq a b ≡ false
eq_less a b lt = grind (arith, nat_tests)

pub eq_more : (a b : ℕ) → b < a → nat_eq a b ≡ false
eq_more a b lt = grind (arith, nat_tests)

eq_suc : (a b : ℕ) → nat_eq (suc a) (suc b) ≡ nat_eq a b
eq_suc a b = grind (arith, nat_tests)

-- ---- lists

get_snoc : {A : Type 0} (xs : List A) (x : A) (p : ℕ) → slice_get (xs ++ x ∷ []) p ≡ cond (nat_eq p (length xs)) (Some x) (slice_get xs p)
get_snoc [] x zero = refl
get_snoc [] x (suc p) = ap (λ (b : Bool). cond b (Some x) None) (sym (eq_more (suc p) 0 (omega arith)))
get_snoc (y ∷ xs) x zero = ap (λ (b : Bool). cond b (Some x) (Some y)) (sym (eq_less 0 (suc (length xs)) (omega arith)))
get_snoc (y ∷ xs) x (suc p) = get_snoc xs x p ∙ ap (λ (b : Bool). cond b (Some x) (slice_get xs p)) (sym (eq_suc p (length xs)))

pub get_set : {A : Type 0} (xs : List A) (i : ℕ) (y : A) (p : ℕ) → i < length xs → slice_get (set xs i y) p ≡ cond (nat_eq p i) (Some y) (slice_get xs p)
get_set [] i y p lt = absurd (omega arith)
get_set (x ∷ xs) zero y zero lt = refl
get_set (x ∷ xs) zero y (suc p) lt = ap (λ (b : Bool). cond b (Some y) (slice_get xs p)) (sym (eq_more (suc p) 0 (omega arith)))
get_set (x ∷ xs) (suc i) y zero lt = ap (λ (b : Bool). cond b (Some y) (Some x)) (sym (eq_less 0 (suc i) (omega arith)))
get_set (x ∷ xs) (suc i) y (suc p) lt = get_set xs i y p (omega arith) ∙ ap (λ (b : Bool). cond b (Some y) (slice_get xs p)) (sym (eq_suc p i))

-- lists that have the same at each place
pub same_each : {A : Type 0} (xs ys : List A) → ((p : ℕ) → slice_get xs p ≡ slice_get ys p) → xs ≡ ys
same_each [] [] each = refl
same_each [] (y ∷ ys) each = absurd (let none : None ≡ Some y = each 0 in cc)
same_each (x ∷ xs) [] each = absurd (let none : Some x ≡ None = each 0 in cc)
same_each (x ∷ xs) (y ∷ ys) each =
    let one : x ≡ y = same_Some x y (each 0) in
    ap (λ (z : _). z ∷ xs) one ∙ ap (λ (zs : List _). y ∷ zs) (same_each xs ys (λ p. each (suc p)))

pub index_snoc : (first block_index : BlockIndex) (older : List BlockIndex) (p : ℕ)
    → slice_get (first ∷ reverse (block_index ∷ older)) p ≡ cond (nat_eq p (suc (length older))) (Some block_index) (slice_get (first ∷ reverse older) p)
index_snoc first block_index older p =
    ap (λ (ns : List BlockIndex). slice_get (first ∷ ns) p) (reverse_cons older block_index) ∙ get_snoc (first ∷ reverse older) block_index p
    ∙ ap (λ (n : ℕ). cond (nat_eq p (suc n)) (Some block_index) (slice_get (first ∷ reverse older) p)) (length-reverse older)

pub place_low : (tree : Tree) (hash : Hash256) (p : ℕ) → place_of tree hash ≡ Some p → p < suc (length tree)
place_low [] hash p e =
    elim (chosen (same hash genesis_hash) 0 None p e) [
      | inl w ↦ let zero_is : 0 ≡ p = w.1 in omega arith
      | inr w ↦ absurd (let none : None ≡ Some p = w.1 in cc)
    ]
place_low (entry ∷ older) hash p e =
    elim (chosen (same hash (block_hash entry.header)) (suc (length older)) (place_of older hash) p e) [
      | inl w ↦ let it : suc (length older) ≡ p = w.1 in omega arith
      | inr w ↦ let low : p < suc (length older) = place_low older hash p w.1 in omega arith
    ]
