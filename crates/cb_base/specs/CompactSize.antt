-- CompactSize, Bitcoin's variable-length integer. A number below 253 is one byte. Otherwise a first
-- byte of 253, 254 or 255 is followed by a little-endian number of two, four or eight bytes. Only
-- the shortest encoding is valid.
use Rattle.std.specs.Prelude.{◌≡◌, ℕ, ◌<◌, ◌⊎◌, List, [], ◌∷◌, ◌++◌, nat_lt, ◌==◌, if◌then◌else◌, Result, Ok, Err}
use Rattle.std.specs.Int.{Width, w8, w16, w32, w64, to_le_bytes}
use Rattle.cb_base.specs.declared.fault.Fault.{Fault}
use Rattle.cb_base.specs.declared.fault.Fault.TheVariants.{NotShortest}
use Rattle.cb_base.specs.Reading.{Read, ◌>>=◌, number_at}

-- the shortest encoding of a number below 2 ^ 64
unfoldable pub compact_text : ℕ → List ℕ
compact_text n =
    if nat_lt n 253
    then n ∷ []
    else (if nat_lt n 65536
    then 253 ∷ to_le_bytes w16 n
    else (if nat_lt n 4294967296 then 254 ∷ to_le_bytes w32 n else 255 ∷ to_le_bytes w64 n))

-- The text encodes the number in more bytes than needed.
abbrev pub SpellsLonger : List ℕ → ℕ → Type 0
SpellsLonger text n =
    ((n < 253) × (text ≡ 253 ∷ to_le_bytes w16 n))
    ⊎ ((n < 65536) × (text ≡ 254 ∷ to_le_bytes w32 n))
    ⊎ ((n < 4294967296) × (text ≡ 255 ∷ to_le_bytes w64 n))

-- the bytes begin with such an encoding
abbrev pub BeginsLonger : List ℕ → Type 0
BeginsLonger bytes =
    (text : List ℕ) × (n : ℕ) × (rest : List ℕ) × SpellsLonger text n × (bytes ≡ text ++ rest)

-- how many bytes the encoding has, by its first byte
abbrev pub wanted : List ℕ → ℕ
wanted [] = 1
wanted (first ∷ rest) =
    if nat_lt first 253 then 1 else (if first == 253 then 3 else (if first == 254 then 5 else 9))

-- reads a number of width w; below least it has a shorter encoding, so it is refused
unfoldable pub wide_at : Width → ℕ → List ℕ → Read ℕ
wide_at w least bytes = do
  n ← number_at w bytes
  if nat_lt n.0 least then Err NotShortest else Ok n

-- reads a CompactSize: its first byte, and from 253 on the number after it
unfoldable pub compact_at : List ℕ → Read ℕ
compact_at bytes = do
  first ← number_at w8 bytes
  if nat_lt first.0 253
      then Ok first
      else (if first.0 == 253
      then wide_at w16 253 first.1
      else (if first.0 == 254 then wide_at w32 65536 first.1 else wide_at w64 4294967296 first.1))

-- A step of a reader returned what the definition says. After a fault, the bytes that are left
-- (new) can be any.
abbrev pub Gives : {A : Type 0} → Read A → Result A Fault → List ℕ → Type 0
Gives read (Ok value) new = read ≡ Ok (value, new)
Gives read (Err fault) new = read ≡ Err fault
