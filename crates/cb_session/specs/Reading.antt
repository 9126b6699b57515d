-- What a reader's thread reads and puts.
use Rattle.std.specs.Prelude.{◌≡◌, ◌≢◌, ℕ, ◌≤◌, ◌-◌, ◌^◌, ◌⊎◌, Bool, true, false, List, [], ◌++◌, length, Option, Some, None}
use Rattle.std.specs.Io.KnownBytes.{Consumes, IsAtEnd}
use Rattle.cb_base.specs.declared.fault.Fault.{Fault}
use Rattle.cb_wire.specs.declared.item.Item.{Item}
use Rattle.cb_wire.specs.Stream.{Assembled, Stream}
use Rattle.cb_base.specs.declared.read_end.ReadEnd.{ReadEnd}
use Rattle.cb_base.specs.declared.read_end.ReadEnd.TheVariants as ends
use Rattle.cb_session.specs.declared.input.Input.{Input}
use Rattle.cb_session.specs.declared.input.Input.TheVariants as inputs
use Rattle.cb_session.specs.Input.{maybe, said}
use Rattle.cb_session.specs.Putting.{PutAll, PutAndEnded, PutSome, SeatNow}

-- ---- what is to be put

-- Memory ran out for a piece of at most 65,536 bytes, of which nothing is put. It is empty only if
-- nothing was read before: memory ran out for the buffer.
pub record IsRefused (heard refused : List ℕ) : Type 0 where
  pub one_piece : length refused ≤ 65536
  pub first : refused ≡ [] → heard ≡ []

-- Why this is the last input to put. There is none if the stream has no fault and memory sufficed.
-- It is `Broken` with the fault if the stream has one. It is `NoMemory` if memory ran out.
abbrev pub LastSo : Option Input → List ℕ → List ℕ → Option Fault → Type 0
LastSo None heard refused fault = (refused ≡ []) × (fault ≡ None)
LastSo (Some (inputs.Broken why)) heard refused fault = (refused ≡ []) × (fault ≡ Some why)
LastSo (Some inputs.NoMemory) heard refused fault = IsRefused heard refused × (fault ≡ None)
LastSo (Some (inputs.Said item)) heard refused fault = ⊥

-- What is to be put of these bytes: the items that they spell, and then the last input if there is
-- one. Bytes of a piece that memory ran out for come last and don't count.
pub record IsToPut (bytes : List ℕ) (items : List Item) (last : Option Input) : Type 0 where
  pub heard : List ℕ
  pub refused : List ℕ
  pub parts : bytes ≡ heard ++ refused
  pub rest : List ℕ
  pub fault : Option Fault
  pub stream : Stream heard items rest fault
  pub last_so : LastSo last heard refused fault

-- ---- pieces

-- Why a source was read no further: it ended, a read failed, or 2^40 bytes or more were read.
abbrev pub SourceEndsSo : ReadEnd → Option (List ℕ) → Bool → Bool → List ℕ → Type 0
SourceEndsSo ends.Eof remaining failed_before failed read =
    IsAtEnd remaining × (failed ≡ failed_before)
SourceEndsSo ends.Fault remaining failed_before failed read = failed ≡ true
SourceEndsSo ends.Turns remaining failed_before failed read =
    (2 ^ 40 ≤ length read) × (failed ≡ failed_before)
SourceEndsSo ends.Stopped remaining failed_before failed read = ⊥

-- The items of these bytes were put. The assembler keeps the bytes behind them.
pub record HasPut (bytes : List ℕ) (old now : SeatNow) (assembled : Assembled) : Type 0 where
  pub items : List Item
  pub stream : Stream bytes items assembled.rest assembled.fault
  pub put : PutAll old now (said items)

-- There is a last input, everything was put, and the connection was ended behind it.
pub record Finished (old new : SeatNow) (inputs : List Input) (last : Option Input) (end : ReadEnd)
    : Type 0 where
  pub put : PutAndEnded old new inputs
  pub some_last : last ≢ None
  pub why : end ≡ ends.Fault

-- With these bytes no more is put: the last input was, or not all could be.
pub record EndedBehind (bytes : List ℕ) (old new : SeatNow) (end : ReadEnd) : Type 0 where
  pub items : List Item
  pub last : Option Input
  pub to_put : IsToPut bytes items last
  pub ended : Finished old new (said items ++ maybe last) last end
      ⊎ PutSome old new (said items ++ maybe last) end

-- ---- the whole of it

-- Everything was put, and the connection was ended behind it.
pub record IsDone (now : SeatNow) (later : List Input) : Type 0 where
  pub all : later ≡ []
  pub ended : now.ended ≡ true
  pub going : now.stopped ≡ false

-- The connection goes on: reading ended before its end.
pub record IsCut (now : SeatNow) (stopped : Bool) : Type 0 where
  pub live : now.ended ≡ false
  pub stopped_is : now.stopped ≡ stopped

-- Reading came to the source's end, and nothing was wrong.
pub record IsEof (remaining : Option (List ℕ)) (failed_before failed : Bool) (last : Option Input)
    : Type 0 where
  pub at_end : IsAtEnd remaining
  pub unfailed : failed ≡ failed_before
  pub none_last : last ≡ None

-- A read failed, and there is no last input. Or there is one, and no read failed.
abbrev pub IsFault : Bool → Bool → Option Input → Type 0
IsFault failed_before failed last =
    ((failed ≡ true) × (last ≡ None)) ⊎ ((failed ≡ failed_before) × (last ≢ None))

-- 2^40 bytes or more were read, nothing was wrong, and everything was put.
pub record IsLong (failed_before failed : Bool) (read : List ℕ) (last : Option Input)
    (later : List Input) : Type 0 where
  pub enough : 2 ^ 40 ≤ length read
  pub unfailed : failed ≡ failed_before
  pub none_last : last ≡ None
  pub all : later ≡ []

-- The reason why reading ended is true. The connection was ended at Eof and Fault, and only then.
abbrev pub EndsSo : ReadEnd → Option (List ℕ) → Bool → Bool → SeatNow → List ℕ → Option Input
    → List Input → Type 0
EndsSo ends.Eof remaining failed_before failed now read last later =
    IsEof remaining failed_before failed last × IsDone now later
EndsSo ends.Fault remaining failed_before failed now read last later =
    IsFault failed_before failed last × IsDone now later
EndsSo ends.Turns remaining failed_before failed now read last later =
    (IsLong failed_before failed read last later ⊎ (2 ^ 48 - 1 ≤ now.counted)) × IsCut now false
EndsSo ends.Stopped remaining failed_before failed now read last later = IsCut now true

-- What a reader's thread did, from its source, seat and stop before (`input`, `failed_before`,
-- `old`) to those after (`remaining`, `failed`, `new`). Its reads gave the bytes `read`.
pub record Reads (input remaining : Option (List ℕ)) (failed_before failed : Bool)
    (old new : SeatNow) (read : List ℕ) (end : ReadEnd) : Type 0 where
  -- If the source tells its bytes, it gave these.
  pub consumed : Consumes input remaining read
  -- What is to be put of them.
  pub items : List Item
  pub last : Option Input
  pub to_put : IsToPut read items last
  -- What was put: a beginning of that, each once and in order.
  pub put : List Input
  pub later : List Input
  pub in_order : put ++ later ≡ said items ++ maybe last
  pub grown : new.queued ≡ old.queued ++ put
  -- Why reading ended, and whether the connection was ended.
  pub cause : EndsSo end remaining failed_before failed new read last later
