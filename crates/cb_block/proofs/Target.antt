-- A hash of 32 bytes against the target: its three highest bytes decide, and where they are equal the rest.
use Rattle.std.proofs.Common.{◌≡◌, ℕ, zero, suc, ◌+◌, ◌*◌, ◌^◌, ◌<◌, List, [], ◌∷◌, ◌++◌, length, get_or, take, drop, refl, sym, ap, ◌∙◌, arith}
use Rattle.std.specs.Prelude.{◌↔◌}
use Rattle.std.proofs.lemmas.List.{take-append-drop, length-take, length-drop}
use Rattle.std.proofs.Math.Nat.{pow-succ', mul_assoc}
use Rattle.std.specs.List.{AllByRecursion}
use Rattle.cb_base.proofs.Fields.{AreBytes, AreBytes-take}
use Rattle.cb_block.specs.Work.{little_endian}

-- what the lower bytes are worth is below one of the next byte, and the higher ones are worth that each
record Halves (low high : List ℕ) (worth : ℕ) : Type 0 where
  below : little_endian low < worth
  whole : little_endian (low ++ high) ≡ little_endian low + worth * little_endian high

rest_are : (b : ℕ) (bytes : List ℕ) → AreBytes (b ∷ bytes) → AreBytes bytes
rest_are b bytes h i = h (suc i)

halves : (n : ℕ) (low high : List ℕ) → length low ≡ n → AreBytes low → Halves low high (256 ^ n)
halves zero [] high e are = record { below = omega arith; whole = grind arith }
halves zero (b ∷ low) high e are = absurd (omega arith)
halves (suc n) [] high e are = absurd (omega arith)
halves (suc n) (b ∷ low) high e are =
    let h = halves n low high (omega arith) (rest_are b low are) in
    let byte : b < 256 = are 0 in
    let power : 256 ^ suc n ≡ 256 * 256 ^ n = pow-succ' 256 n in
    let product : 256 ^ suc n * little_endian high ≡ 256 * (256 ^ n * little_endian high) = ap (λ (p : ℕ). p * little_endian high) power ∙ mul_assoc 256 (256 ^ n) (little_endian high) in
    record {
      below = omega (arith, power, h.below);
      whole = omega (arith, product, h.whole);
    }

pub all_zero : (low : List ℕ) → (little_endian low ≡ 0) ↔ AllByRecursion (λ byte. byte ≡ 0) low
all_zero [] = (λ _. tt, λ _. refl)
all_zero (b ∷ low) = let h = all_zero low in (
  λ e. (omega arith, h.0 (omega arith)),
  λ z. omega (arith, z.0, h.1 z.1),
)

three : (xs : List ℕ) → length xs ≡ 3 → xs ≡ get_or xs 0 0 ∷ get_or xs 1 0 ∷ get_or xs 2 0 ∷ []
three [] e = absurd (omega arith)
three (a ∷ []) e = absurd (omega arith)
three (a ∷ b ∷ []) e = absurd (omega arith)
three (a ∷ b ∷ c ∷ []) e = refl
three (a ∷ b ∷ c ∷ d ∷ xs) e = absurd (omega arith)

-- the number in two parts
pub record IsParted (bytes low : List ℕ) (high : ℕ) : Type 0 where
  pub below : little_endian low < 256 ^ 29
  pub whole : little_endian bytes ≡ little_endian low + 256 ^ 29 * high

pub parted : (bytes low top : List ℕ) (high : ℕ) → length bytes ≡ 32 → AreBytes bytes → low ≡ take 29 bytes → top ≡ drop 29 bytes
    → high ≡ get_or top 0 0 + get_or top 1 0 * 256 + get_or top 2 0 * 65536 + 0 → IsParted bytes low high
parted bytes low top high len are is_low is_top is_high =
    let long : length (take 29 bytes) ≡ 29 = omega (arith, length-take 29 bytes) in
    let h = halves 29 (take 29 bytes) (drop 29 bytes) long (AreBytes-take 29 bytes are) in
    let three_left : length (drop 29 bytes) ≡ 3 = omega (arith, length-drop 29 bytes) in
    let top_is : little_endian (drop 29 bytes) ≡ high = ap little_endian (three (drop 29 bytes) three_left) ∙ omega (arith, is_high, ap (λ (xs : List ℕ). get_or xs 0 0) is_top, ap (λ (xs : List ℕ). get_or xs 1 0) is_top, ap (λ (xs : List ℕ). get_or xs 2 0) is_top) in
    let whole : little_endian bytes ≡ little_endian (take 29 bytes) + 256 ^ 29 * little_endian (drop 29 bytes) = ap little_endian (sym (take-append-drop 29 bytes)) ∙ h.whole in
    record {
      below = rw is_low h.below;
      whole = whole ∙ ap (λ (n : ℕ). little_endian (take 29 bytes) + 256 ^ 29 * n) top_is ∙ ap (λ (xs : List ℕ). little_endian xs + 256 ^ 29 * high) (sym is_low);
    }
