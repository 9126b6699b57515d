-- Cutting the bytes of a source into lines.
use Rattle.std.specs.Prelude.{◌≡◌, ℕ, ◌-◌, ◌^◌, ◌≤◌, ◌==◌, Bool, true, false, List, [], ◌∷◌, ◌++◌, length, All, Option, Some, None}
use Rattle.std.specs.Str.Lines.{lines}

-- the value of a line reader: the current line, and the bytes that were read ahead
pub record Cutting : Type 0 where
  pub line : List ℕ
  pub ahead : List ℕ

-- no byte is an LF
abbrev pub HasNoFeed : List ℕ → Type 0
HasNoFeed bytes = All (λ byte. (byte == 10) ≡ false) bytes

-- With an LF ahead, the bytes before the first LF went to the line, and the LF is dropped. Without
-- one, all bytes ahead went to the line.
abbrev pub Moves : Bool → Cutting → Cutting → Type 0
Moves true old new =
    (front : List ℕ) × HasNoFeed front × (old.ahead ≡ front ++ (10 ∷ new.ahead))
    × (new.line ≡ old.line ++ front)
Moves false old new = HasNoFeed old.ahead × (new.ahead ≡ []) × (new.line ≡ old.line ++ old.ahead)

-- If the bytes to come are known, the line is the first of them, and `new` is what comes after it.
-- If there is no line, there were no bytes.
abbrev pub NextLine : Bool → Option (List ℕ) → Option (List ℕ) → List ℕ → Type 0
NextLine found None new line = Unit {0}
NextLine found (Some bytes) None line = ⊥
NextLine true (Some bytes) (Some rest) line = lines bytes ≡ line ∷ lines rest
NextLine false (Some bytes) (Some rest) line = (bytes ≡ []) × (rest ≡ [])

-- if the bytes are known, they have 2^64 - 2 lines or more
abbrev pub HasManyLines : Option (List ℕ) → Type 0
HasManyLines None = Unit {0}
HasManyLines (Some bytes) = 2 ^ 64 - 2 ≤ length (lines bytes)
