-- Counting lines.
use Rattle.std.proofs.Common.{◌≡◌, ℕ, suc, ◌+◌, Bool, true, List, [], ◌++◌, length, Option, Some, None, ap, subst, arith}
use Rattle.std.specs.Io.KnownBytes.{prepend_known}
use Rattle.std.specs.Str.Lines.{lines}
use Rattle.cb_control.specs.Lines.{NextLine}

-- of the known bytes' lines, the next one has this number, where these bytes are left
abbrev pub IsNext : ℕ → Option (List ℕ) → Option (List ℕ) → Type 0
IsNext number None rest = Unit {0}
IsNext number (Some bytes) None = ⊥
IsNext number (Some bytes) (Some rest) = length (lines bytes) + 1 ≡ number + length (lines rest)

-- at the beginning
pub next-first : (whole : Option (List ℕ)) (ahead : List ℕ) → ahead ≡ [] → IsNext 1 whole (prepend_known ahead whole)
next-first None ahead n = tt
next-first (Some bytes) ahead n =
    let same : length (lines (ahead ++ bytes)) ≡ length (lines bytes) = ap (λ (x : List ℕ). length (lines (x ++ bytes))) n in omega (arith, same)

-- behind one line more
pub next-more : (number : ℕ) (whole r r' : Option (List ℕ)) (found : Bool) (line : List ℕ) → IsNext number whole r → NextLine found r r' line → found ≡ true
    → IsNext (number + 1) whole r'
next-more number None r r' found line n l f = tt
next-more number (Some bytes) None r' found line n l f = absurd n
next-more number (Some bytes) (Some xs) None found line n l f = absurd l
next-more number (Some bytes) (Some xs) (Some ys) found line n l f =
    let next : NextLine true (Some xs) (Some ys) line = subst (λ (b : Bool). NextLine b (Some xs) (Some ys) line) f l in
    let one : length (lines xs) ≡ suc (length (lines ys)) = ap length next in
    omega (arith, n, one)
