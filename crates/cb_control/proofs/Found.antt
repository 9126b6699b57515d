-- What holds of a value that may be found in a text, from how it is looked for.
use Rattle.std.proofs.Common.{◌≡◌, ℕ, Bool, true, false, cond, List, ◌∷◌, ◌++◌, Option, Some, None, option_map, refl, inl, inr}
use Rattle.std.specs.Prelude.{IfSome, option_and_then}
use Rattle.std.specs.Str.{bytes_eq}
use Rattle.std.proofs.lemmas.Bool.{cases_Bool}
use Rattle.std.proofs.lemmas.Slice.Eq.{bytes_eq-Decides}
use Rattle.cb_control.specs.Words.{cut_of}
use Rattle.cb_control.proofs.WordLemmas.{cut_parts}
use Rattle.cb_control.specs.ScriptReading.{two_in}

by_test : {A : Type 0} (P : A → Type 0) (b : Bool) (x y : Option A) → (b ≡ true → IfSome x P) → IfSome y P → IfSome (cond b x y) P
by_test P true x y f h = f refl
by_test P false x y f h = h

-- one value under this word, and others under other words
pub by_word : {A : Type 0} (P : A → Type 0) (text word : List ℕ) (x y : Option A) → (text ≡ word → IfSome x P) → IfSome y P → IfSome (cond (bytes_eq text word) x y) P
by_word P text word x y f h = by_test P (bytes_eq text word) x y (λ same. f ((bytes_eq-Decides text word).0 same)) h

pub by_map : {A B : Type 0} (P : B → Type 0) (o : Option A) (f : A → B) → ((a : A) → o ≡ Some a → P (f a)) → IfSome (option_map f o) P
by_map P None f h = tt
by_map P (Some a) f h = h a refl

pub by_then : {A B : Type 0} (P : B → Type 0) (o : Option A) (f : A → Option B) → ((a : A) → o ≡ Some a → IfSome (f a) P) → IfSome (option_and_then f o) P
by_then P None f h = tt
by_then P (Some a) f h = h a refl

-- two values, with a space between their texts
pub by_two : {A B C : Type 0} (P : C → Type 0) (make : A → B → C) (value : List ℕ → Option A) (other : List ℕ → Option B) (rest : List ℕ)
    → ((first second : List ℕ) (a : A) (b : B) → rest ≡ first ++ 32 ∷ second → value first ≡ Some a → other second ≡ Some b → P (make a b)) → IfSome (two_in make value other rest) P
by_two P make value other rest h =
    by_then P (cut_of rest) (λ texts. option_and_then (λ a. option_map (λ b. make a b) (other texts.1)) (value texts.0))
    (λ texts cut. by_then P (value texts.0) (λ a. option_map (λ b. make a b) (other texts.1)) (λ a is. by_map P (other texts.1) (λ b. make a b) (λ b also. h texts.0 texts.1 a b (cut_parts rest texts cut) is also)))

-- the text is another one than this word
pub other_word : (text word : List ℕ) → (text ≡ word → ⊥) → bytes_eq text word ≡ false
other_word text word h =
    elim (cases_Bool (bytes_eq text word)) [
      | inl same ↦ absurd (h ((bytes_eq-Decides text word).0 same))
      | inr differs ↦ differs
    ]
