-- Four messages side by side. Each of their words is a vector, with a lane for each message.
use Rattle.std.specs.Prelude.{◌≡◌, ℕ, ◌*◌, ◌/◌, ◌%◌, ◌<◌, ◌≤◌, List, length, map, take, drop, slice_index}
use Rattle.sha2.specs.Sha256.{compress}

-- the words of the message in lane k
abbrev pub lane : ℕ → List (List ℕ) → List ℕ
lane k vectors = map (λ vector. slice_index vector k) vectors

-- the text is one or more blocks of 64 bytes
abbrev pub HasWholeBlocks : List ℕ → Type 0
HasWholeBlocks text = (0 < length text) × (length text % 64 ≡ 0)

-- The state after block i of a text. Where the text has no block i, the state stays.
abbrev pub TakesBlock : List ℕ → ℕ → List ℕ → List ℕ → Type 0
TakesBlock text i before after =
    (i < length text / 64 → after ≡ compress before (take 64 (drop (i * 64) text)))
    × (length text / 64 ≤ i → after ≡ before)
