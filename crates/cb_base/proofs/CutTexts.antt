-- A strict beginning of a text is too short to be read.
use Rattle.std.proofs.Common.{◌≡◌, ℕ, ◌<◌, ◌^◌, true, ltb, List, [], ◌∷◌, ◌++◌, length, Result, Ok, Err, refl, sym, ap, ◌∙◌, arith, ◌≢◌}
use Rattle.std.specs.Int.{Width, byte_len, to_le_bytes}
use Rattle.std.proofs.lemmas.Bool.{lt-ltb}
use Rattle.std.proofs.lemmas.List.{length-append}
use Rattle.cb_base.specs.declared.fault.Fault.{Fault}
use Rattle.cb_base.specs.declared.fault.Fault.TheVariants.{Truncated}
use Rattle.cb_base.specs.CompactSize.{compact_text, compact_at}
use Rattle.cb_base.specs.Reading.{Read, ◌>>=◌, bytes_at, number_at}
use Rattle.cb_base.proofs.Fields.{IsWide, number_again, bytes_again}
use Rattle.cb_base.proofs.Compact.{compact_again, compact_short}

pub some_of : (c : List ℕ) → c ≢ [] → 0 < length c
some_of [] some = absurd (some refl)
some_of (x ∷ c) some = omega arith

-- ---- a beginning of two texts, one behind the other

-- it ends within the first, or behind it
data Cut (b c x y : List ℕ) : Type 0 where
  within : (d : List ℕ) → 0 < length d → x ≡ b ++ d → Cut b c x y
  behind : (d : List ℕ) → b ≡ x ++ d → y ≡ d ++ c → Cut b c x y

cut : (b c x y : List ℕ) → x ++ y ≡ b ++ c → Cut b c x y
cut b c [] y e = behind b refl e
cut [] c (a ∷ x) y e = within (a ∷ x) (omega arith) refl
cut (f ∷ b) c (a ∷ x) y e =
    let first : a ≡ f = cc in
    let others : x ++ y ≡ b ++ c = cc in
    elim (cut b c x y others) [
      | within d some p ↦ within d some (ap (λ (z : ℕ). z ∷ x) first ∙ ap (λ (zs : List ℕ). f ∷ zs) p)
      | behind d p q ↦ behind d (ap (λ (z : ℕ). z ∷ b) (sym first) ∙ ap (λ (zs : List ℕ). a ∷ zs) p) q
    ]

-- ---- parts of a text

-- The text of a value is read again, whatever follows it, and a strict beginning of it is too short.
pub record IsPart (A : Type 0) (read : List ℕ → Read A) (text : List ℕ) (value : A) : Type 0 where
  pub again : (rest : List ℕ) → read (text ++ rest) ≡ Ok (value, rest)
  pub short : (b c : List ℕ) → text ≡ b ++ c → 0 < length c → read b ≡ Err Truncated

-- a part, and what stands behind it
pub short_then : (A B : Type 0) (read : List ℕ → Read A) (next : A × List ℕ → Result B Fault) (text after : List ℕ) (value : A) (b c : List ℕ) → IsPart A read text value
    → ((d : List ℕ) → after ≡ d ++ c → next (value, d) ≡ Err Truncated) → text ++ after ≡ b ++ c → (read b >>= next) ≡ Err Truncated
short_then A B read next text after value b c part later e =
    elim (cut b c text after e) [
      | within d some p ↦ ap (λ (r : Read A). r >>= next) (part.short b d p some)
      | behind d p q ↦ ap (λ (x : List ℕ). read x >>= next) p ∙ ap (λ (r : Read A). r >>= next) (part.again d) ∙ later d q
    ]

-- the last part
pub short_last : (A B : Type 0) (read : List ℕ → Read A) (next : A × List ℕ → Result B Fault) (text : List ℕ) (value : A) (b c : List ℕ) → IsPart A read text value
    → 0 < length c → text ≡ b ++ c → (read b >>= next) ≡ Err Truncated
short_last A B read next text value b c part some e = ap (λ (r : Read A). r >>= next) (part.short b c e some)

pub bytes_short : (n : ℕ) (bytes : List ℕ) → length bytes < n → bytes_at n bytes ≡ Err Truncated
bytes_short n bytes lt = let e : ltb (length bytes) n ≡ true = lt-ltb _ _ lt in rw e refl

pub bytes_part : (n : ℕ) (text : List ℕ) → length text ≡ n → IsPart (List ℕ) (bytes_at n) text text
bytes_part n text len = record {
  again = λ rest. bytes_again n text rest len;
  short = λ b c e some. bytes_short n b (omega (arith, len, ap length e, length-append b c));
}

number_short : (w : Width) (bytes : List ℕ) → length bytes < byte_len w → number_at w bytes ≡ Err Truncated
number_short w bytes lt = let e : ltb (length bytes) (byte_len w) ≡ true = lt-ltb _ _ lt in rw e refl

pub number_part : (w : Width) (limit : ℕ) (wide : IsWide w limit) (n : ℕ) → n < limit → IsPart ℕ (number_at w) (to_le_bytes w n) n
number_part w limit wide n lt = record {
  again = λ rest. number_again w limit wide n rest lt;
  short = λ b c e some. number_short w b (omega (arith, wide.len n, ap length e, length-append b c));
}

pub compact_part : (n : ℕ) → n < 2 ^ 64 → IsPart ℕ compact_at (compact_text n) n
compact_part n lt = record { again = λ rest. compact_again n rest lt; short = λ b c e some. compact_short n b c e some }
