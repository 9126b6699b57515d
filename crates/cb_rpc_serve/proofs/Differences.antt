-- When the bits that differ are none.
use Rattle.std.proofs.Common.{◌≡◌, ℕ, ◌+◌, ◌<◌, ◌↔◌, List, [], ◌∷◌, ◌++◌, length, take, drop, get_or, bit_or, bit_xor, refl, ap, sym, ◌∙◌, arith}
use Rattle.std.specs.Int.Bits.{xor_self, xor_add_and}
use Rattle.std.proofs.lemmas.Nat.{and_le_l, and_le_r, le_or_l, le_or_r}
use Rattle.std.proofs.lemmas.List.{length-take-le, take_more}

-- bits that are none, with those in which two numbers differ, are none: the two are one
pub none_or_xor : (bits x y : ℕ) → bit_or bits (bit_xor x y) ≡ 0 → (bits ≡ 0) × (x ≡ y)
none_or_xor bits x y h =
    let none : bits ≡ 0 = omega (arith, h, le_or_l bits (bit_xor x y)) in
    let same : bit_xor x y ≡ 0 = omega (arith, h, le_or_r bits (bit_xor x y)) in
    (none, omega (arith, same, xor_add_and x y, and_le_l x y, and_le_r x y))

pub none_of_same : (bits x y : ℕ) → bits ≡ 0 → x ≡ y → bit_or bits (bit_xor x y) ≡ 0
none_of_same bits x y none same = rw same (rw none (rw (xor_self y) refl))

-- lists that are the same with one more are the same without it, and the two are one
pub last_same : (xs ys : List ℕ) (x y : ℕ) → length xs ≡ length ys → xs ++ x ∷ [] ≡ ys ++ y ∷ [] → (xs ≡ ys) × (x ≡ y)
last_same [] [] x y e h = (refl, ap (λ zs. get_or zs 0 0) h)
last_same [] (b ∷ ys) x y e h = absurd (omega (arith, e))
last_same (a ∷ xs) [] x y e h = absurd (omega (arith, e))
last_same (a ∷ xs) (b ∷ ys) x y e h =
    let rest : xs ++ x ∷ [] ≡ ys ++ y ∷ [] = ap (λ zs. drop 1 zs) h in
    let more = last_same xs ys x y (omega (arith, e)) rest in
    (ap (λ z. z ∷ xs) (ap (λ zs. get_or zs 0 0) h) ∙ ap (λ zs. b ∷ zs) more.0, more.1)

-- one more place
pub one_more : (bits i : ℕ) (xs ys : List ℕ) → length xs ≡ length ys → i < length xs → (bits ≡ 0) ↔ (take i xs ≡ take i ys)
    → (bit_or bits (bit_xor (get_or xs i 0) (get_or ys i 0)) ≡ 0) ↔ (take (i + 1) xs ≡ take (i + 1) ys)
one_more bits i xs ys e lt so_far =
    let x = get_or xs i 0 in
    let y = get_or ys i 0 in
    let first = take_more xs i 0 lt in
    let second = take_more ys i 0 (omega (arith, e, lt)) in (
      λ h.
          let g = none_or_xor bits x y h in
          first ∙ (ap (λ zs. zs ++ x ∷ []) (so_far.0 g.0) ∙ (ap (λ z. take i ys ++ z ∷ []) g.1 ∙ sym second)),
      λ h.
          let lengths = length-take-le i xs (omega (arith, lt)) ∙ sym (length-take-le i ys (omega (arith, e, lt))) in
          let g = last_same (take i xs) (take i ys) x y lengths (sym first ∙ (h ∙ second)) in
          none_of_same bits x y (so_far.1 g.0) g.1,
    )
