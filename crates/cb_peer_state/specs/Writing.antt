-- How much of a text was written, and why no more.
use Rattle.std.specs.Prelude.{◌≡◌, ◌≢◌, ℕ, ◌-◌, ◌^◌, min, List, [], ◌++◌, length, Option, Some, None}
use Rattle.std.specs.Io.KnownBytes.{Appends}
use Rattle.cb_base.specs.declared.sink.SinkFailure.{SinkFailure}
use Rattle.cb_base.specs.declared.sink.SinkFailure.TheVariants as failures
use Rattle.cb_peer_state.specs.declared.message_sink.WriteFault.{WriteFault}
use Rattle.cb_peer_state.specs.declared.message_sink.WriteFault.TheVariants.{Io, Zero, Memory}
use Rattle.cb_base.specs.Bytes.{first}
use Rattle.cb_wire.specs.Stream.{texts}
use Rattle.cb_wire.specs.declared.message.Message.{Message}

-- the number of bytes, as a u64 that stops at its maximum
abbrev pub counted : List ℕ → ℕ
counted bytes = min (length bytes) (2 ^ 64 - 1)

-- a sink that tells its bytes
abbrev pub TellsBytes : Option (List ℕ) → Type 0
TellsBytes None = ⊥
TellsBytes (Some bytes) = Unit {0}

-- The text is the bytes that were written, so many if the sink tells them, followed by the missing
-- ones.
pub record Wrote (old new : Option (List ℕ)) (text : List ℕ) (written : ℕ) (missing : List ℕ)
    : Type 0 where
  pub sent : List ℕ
  pub parts : text ≡ sent ++ missing
  pub appended : Appends old new sent
  pub count : TellsBytes old → written ≡ counted sent

-- the same for any missing bytes
pub record WrotePart (old new : Option (List ℕ)) (text : List ℕ) (written : ℕ) : Type 0 where
  pub missing : List ℕ
  pub wrote : Wrote old new text written missing

-- a fault of the sink, not of memory
abbrev pub IsOfSink : WriteFault → Type 0
IsOfSink Io = Unit {0}
IsOfSink Zero = Unit {0}
IsOfSink Memory = ⊥

-- Writing stopped with this fault. A fault of the sink becomes the first failure if there was none
-- before. A fault of memory leaves the first failure as it was.
abbrev pub EndsBy : Option SinkFailure → Option SinkFailure → WriteFault → Type 0
EndsBy old new Io = new ≡ first old failures.Io
EndsBy old new Zero = new ≡ first old failures.Zero
EndsBy old new Memory = new ≡ old

-- This is the text of the last of these messages, of one at least.
pub record IsTextOfLast (messages : List Message) (missing : List ℕ) : Type 0 where
  pub front : List Message
  pub last : List Message
  pub parts : messages ≡ front ++ last
  pub some : last ≢ []
  pub text_is : missing ≡ texts last

-- Writing these messages stopped with this fault behind so many bytes. If memory ran out, it
-- stopped in front of a whole message.
pub record WroteUntil (old new : Option (List ℕ)) (messages : List Message) (written : ℕ)
    (fault : WriteFault) : Type 0 where
  pub missing : List ℕ
  pub wrote : Wrote old new (texts messages) written missing
  pub whole : fault ≡ Memory → IsTextOfLast messages missing
