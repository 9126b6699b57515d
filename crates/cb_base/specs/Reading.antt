-- Reading as functions on lists of bytes. A read returns a value and the bytes after it, or the
-- first fault.
use Rattle.std.specs.Prelude.{◌≡◌, ℕ, ℤ, ◌⊎◌, List, length, take, drop, nat_lt, if◌then◌else◌, Result, Ok, Err}
use Rattle.std.specs.Int.{Width, w16, byte_len, from_le_bytes, from_be_bytes, cast_signed}
use Rattle.cb_base.specs.declared.fault.Fault.{Fault}
use Rattle.cb_base.specs.declared.fault.Fault.TheVariants.{Memory, Truncated}

-- the result of a read: a value and the bytes after it, or a fault
abbrev pub Read : Type 0 → Type 0
Read A = Result (A × List ℕ) Fault

-- continues with the next read, unless the read before failed
infixl 10 ◌>>=◌
abbrev pub ◌>>=◌ : {A B : Type 0} → Result A Fault → (A → Result B Fault) → Result B Fault
Ok x >>= f = f x
Err e >>= f = Err e

-- the first n bytes
abbrev pub bytes_at : ℕ → List ℕ → Read (List ℕ)
bytes_at n bytes =
    if nat_lt (length bytes) n then Err Truncated else Ok (take n bytes, drop n bytes)

-- an unsigned little-endian number
abbrev pub number_at : Width → List ℕ → Read ℕ
number_at w bytes =
    if nat_lt (length bytes) (byte_len w)
    then Err Truncated
    else Ok (from_le_bytes w (take (byte_len w) bytes), drop (byte_len w) bytes)

-- the port of a network address: a big-endian number of two bytes
abbrev pub port_at : List ℕ → Read ℕ
port_at bytes =
    if nat_lt (length bytes) 2
    then Err Truncated
    else Ok (from_be_bytes w16 (take 2 bytes), drop 2 bytes)

-- a signed little-endian number in two's complement
abbrev pub signed_at : Width → List ℕ → Read ℤ
signed_at w bytes =
    if nat_lt (length bytes) (byte_len w)
    then Err Truncated
    else Ok (cast_signed w (from_le_bytes w (take (byte_len w) bytes)), drop (byte_len w) bytes)

-- A reader returned what the definition (read) says, where view shows its value. Before, the bytes
-- old were left to read; now the bytes new are. After a fault they are the same.
abbrev pub ReadsBy : {A B : Type 0} → (B → A) → Read A → List ℕ → Result B Fault → List ℕ → Type 0
ReadsBy view read old (Ok value) new = read ≡ Ok (view value, new)
ReadsBy view read old (Err fault) new = (read ≡ Err fault) × (new ≡ old)

-- the same, for a value that needs no view
abbrev pub Reads : {A : Type 0} → Read A → List ℕ → Result A Fault → List ℕ → Type 0
Reads read old (Ok value) new = read ≡ Ok (value, new)
Reads read old (Err fault) new = (read ≡ Err fault) × (new ≡ old)

-- the same for a reader that allocates: it may also fail with Memory
abbrev pub ReadsInMemory : {A : Type 0} → Read A → List ℕ → Result A Fault → List ℕ → Type 0
ReadsInMemory read old (Ok value) new = read ≡ Ok (value, new)
ReadsInMemory read old (Err fault) new = ((fault ≡ Memory) ⊎ (read ≡ Err fault)) × (new ≡ old)
