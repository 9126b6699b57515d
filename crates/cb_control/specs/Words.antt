-- The words of a line, and the numbers that they write.
use Rattle.std.specs.Prelude.{◌≡◌, ℕ, ◌^◌, ◌<◌, ◌==◌, nat_lt, Bool, false, ◌&&◌, if◌then◌else◌, List, [], ◌∷◌, ◌++◌, Option, Some, None, option_map}
use Rattle.std.specs.Str.{all_ascii_digits}
use Rattle.std.specs.Str.Parse.{IsNumeral, digits_value}

-- the word is this decimal number: one digit or more and nothing else; leading zeros are allowed
abbrev pub Writes : List ℕ → ℕ → Type 0
Writes word n = IsNumeral 10 word × (digits_value 10 word ≡ n)

-- a name, one space and a number below the limit
abbrev pub NamesOne : ℕ → List ℕ → List ℕ → ℕ → Type 0
NamesOne limit text name n =
    (word : List ℕ) × Writes word n × (n < limit) × (text ≡ name ++ 32 ∷ word)

-- ---- the same as functions of the text

-- the text before the first space, and the text after it
abbrev pub cut_of : List ℕ → Option (List ℕ × List ℕ)
cut_of [] = None
cut_of (c ∷ cs) = if c == 32 then Some ([], cs) else option_map (λ p. (c ∷ p.0, p.1)) (cut_of cs)

abbrev pub is_numeral : List ℕ → Bool
is_numeral [] = false
is_numeral (c ∷ cs) = all_ascii_digits (c ∷ cs)

-- the number that a word writes, if it writes one and the number is below the limit
abbrev pub number_in : ℕ → List ℕ → Option ℕ
number_in limit word =
    if is_numeral word && nat_lt (digits_value 10 word) limit
    then Some (digits_value 10 word)
    else None
