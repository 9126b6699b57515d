-- Pages of a list: what stands behind a place, so many at a time.
use Rattle.std.proofs.Common.{◌≡◌, ℕ, zero, suc, ◌+◌, ◌≤◌, List, [], ◌∷◌, ◌++◌, length, drop, take, Option, None, Some, refl, ap, sym, subst, ◌∙◌, arith}
use Rattle.std.specs.Prelude.{slice_get}
use Rattle.std.proofs.lemmas.Option.{same_Some}

behind : {A : Type 0} (xs : List A) (place step : ℕ) → slice_get xs (place + step) ≡ slice_get (drop place xs) step
behind xs zero step = let none : 0 + step ≡ step = omega arith in ap (slice_get xs) none
behind [] (suc place) step = refl
behind (x ∷ xs) (suc place) step = let one : suc place + step ≡ suc (place + step) = omega arith in ap (slice_get (x ∷ xs)) one ∙ behind xs place step

next : {A : Type 0} (xs : List A) (step : ℕ) (x : A) → slice_get xs step ≡ Some x → take (suc step) xs ≡ take step xs ++ x ∷ []
next [] step x at = absurd (let none : None ≡ Some x = at in cc)
next (y ∷ xs) zero x at = ap (λ z. z ∷ []) (same_Some y x at)
next (y ∷ xs) (suc step) x at = ap (λ zs. y ∷ zs) (next xs step x at)

take_none : {A : Type 0} (xs : List A) (n : ℕ) → xs ≡ [] → take n xs ≡ []
take_none [] zero e = refl
take_none [] (suc n) e = refl
take_none (x ∷ xs) n e = absurd cc

whole : {A : Type 0} (xs : List A) (step more : ℕ) → slice_get xs step ≡ None → step ≤ more → take step xs ≡ take more xs
whole [] step more at le = take_none [] step refl ∙ sym (take_none [] more refl)
whole (y ∷ xs) zero more at le = absurd (let some : Some y ≡ None = at in cc)
whole (y ∷ xs) (suc step) zero at le = absurd (omega (arith, le))
whole (y ∷ xs) (suc step) (suc more) at le = ap (λ zs. y ∷ zs) (whole xs step more at (omega (arith, le)))

-- one more
pub page_more : {A : Type 0} (xs items : List A) (place step : ℕ) (x : A) → Some x ≡ slice_get xs (place + step) → items ≡ take step (drop place xs)
    → items ++ x ∷ [] ≡ take (step + 1) (drop place xs)
page_more xs items place step x at are =
    let one : suc step ≡ step + 1 = omega arith in
    ap (λ ys. ys ++ x ∷ []) are ∙ sym (next (drop place xs) step x (sym (at ∙ behind xs place step))) ∙ ap (λ n. take n (drop place xs)) one

-- the last
pub page_last : {A : Type 0} (xs items : List A) (place step more : ℕ) → None ≡ slice_get xs (place + step) → step ≤ more → items ≡ take step (drop place xs) → items ≡ take more (drop place xs)
page_last xs items place step more at le are = are ∙ whole (drop place xs) step more (sym (at ∙ behind xs place step)) le
