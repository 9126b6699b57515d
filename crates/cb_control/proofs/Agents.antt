-- What is told of an agent is ASCII.
use Rattle.std.proofs.Common.{◌≡◌, ℕ, ◌<◌, ◌≤◌, true, false, ltb, leb, [], ◌∷◌, sym, ◌∙◌, arith, inl, inr, refl}
use Rattle.std.specs.Char.{encode_utf8}
use Rattle.std.specs.Int.{is_in_range}
use Rattle.std.proofs.lemmas.Bool.{and_right, cases_Bool, false≢true, lt-leb, ltb-false, ltb-true, ne_eqb}
use Rattle.std.proofs.lemmas.Str.{encode_ascii}
use Rattle.cb_control.specs.PeerText.{is_safe}

above : (low high c : ℕ) → high < c → is_in_range low high c ≡ false
above low high c h = and_right (leb low c) (leb c high) (lt-leb c high h)

-- no byte of 128 or more is told
no_high : (b : ℕ) → 127 < b → is_safe b ≡ false
no_high b h =
    rw (
      above 48 57 b (omega arith),
      above 65 90 b (omega arith),
      above 97 122 b (omega arith),
      ne_eqb 32 b (λ e. omega (arith, e)),
      ne_eqb 46 b (λ e. omega (arith, e)),
      ne_eqb 44 b (λ e. omega (arith, e)),
      ne_eqb 59 b (λ e. omega (arith, e)),
      ne_eqb 45 b (λ e. omega (arith, e)),
      ne_eqb 95 b (λ e. omega (arith, e)),
      ne_eqb 47 b (λ e. omega (arith, e)),
      ne_eqb 58 b (λ e. omega (arith, e)),
      ne_eqb 63 b (λ e. omega (arith, e)),
      ne_eqb 64 b (λ e. omega (arith, e)),
      ne_eqb 40 b (λ e. omega (arith, e)),
      ne_eqb 41 b (λ e. omega (arith, e)),
    ) refl

-- a byte that is told is a character of one byte
pub safe_byte : (b : ℕ) → is_safe b ≡ true → encode_utf8 b ≡ b ∷ []
safe_byte b is =
    elim (cases_Bool (ltb b 128)) [
      | inl low ↦ encode_ascii b (ltb-true b 128 low)
      | inr high ↦ absurd (false≢true (sym (no_high b (let most : 128 ≤ b = ltb-false b 128 high in omega arith)) ∙ is))
    ]
