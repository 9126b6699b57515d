-- What one call reads from a source or writes to a sink, if their bytes are known; and the first
-- failure of a sink.
use Rattle.std.specs.Prelude.{◌≡◌, ℕ, ◌<◌, ◌&&◌, ◌==◌, Bool, true, nat_lt, if◌then◌else◌, List, length, take, Option, Some, None}
use Rattle.std.specs.Io.KnownBytes.{Keeps, Appends, Consumes, IsAtEnd}
use Rattle.cb_base.specs.declared.sink.SinkFailure.{SinkFailure}
use Rattle.cb_base.specs.declared.sink.SinkFailure.TheVariants.{Io, Zero}

-- A write with this result appended so many bytes of the piece, or none if it failed.
abbrev pub SinkTakes : Option (List ℕ) → Option (List ℕ) → Option ℕ → List ℕ → Type 0
SinkTakes old new None piece = Keeps old new
SinkTakes old new (Some n) piece = Appends old new (take n piece)

-- a write that failed, or that took none of a piece that isn't empty
abbrev pub is_refusal : Option ℕ → List ℕ → Bool
is_refusal None piece = true
is_refusal (Some n) piece = n == 0 && nat_lt 0 (length piece)

-- the failure that such a write means
abbrev pub refusal : Option ℕ → List ℕ → Option SinkFailure
refusal None piece = Some Io
refusal (Some n) piece = if n == 0 && nat_lt 0 (length piece) then Some Zero else None

-- the first failure of a sink after one more write
abbrev pub failure_after : Option SinkFailure → Option ℕ → List ℕ → Option SinkFailure
failure_after (Some failure) answer piece = Some failure
failure_after None answer piece = refusal answer piece

-- the first failure of a sink after one more failure
abbrev pub first : Option SinkFailure → SinkFailure → Option SinkFailure
first (Some failure) next = Some failure
first None next = Some next

-- A read with this result put so many bytes into the buffer, or none if it failed. It gives 0 bytes
-- only at the end of the input, or if the buffer is empty.
abbrev pub SourceGives : Option (List ℕ) → Option (List ℕ) → Option ℕ → List ℕ → Type 0
SourceGives old new None buffer = Keeps old new
SourceGives old new (Some n) buffer =
    Consumes old new (take n buffer) × (n ≡ 0 → 0 < length buffer → IsAtEnd new)
