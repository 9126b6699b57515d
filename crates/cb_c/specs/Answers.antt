-- What is told of compact blocks and messages.
use Rattle.std.specs.Prelude.{◌≡◌, ℕ, ◌⊎◌, List, Option, Some, None, Result, Ok, Err}
use Rattle.cb_base.specs.declared.fault.Fault.{Fault}
use Rattle.cb_base.specs.declared.fault.Fault.TheVariants.{Memory}
use Rattle.cb_c.specs.Giving.{IsGiven}
use Rattle.cb_c.specs.Status.{status_of}
use Rattle.cb_relay.specs.Envelopes.{EnvelopeTakesMemory, cut_at}
use Rattle.cb_relay.specs.Messages.{wrong_message}
use Rattle.cb_relay.specs.declared.envelope.CutEnvelope.TheVariants.{Broken, Partial, Whole}
use Rattle.cb_relay.specs.declared.message.NoMessage.{NoMessage}
use Rattle.cb_relay.specs.declared.message.NoMessage.TheVariants.{Bad, Damaged}
use Rattle.cb_relay.specs.declared.rebuilding.Kind.{Kind}
use Rattle.cb_relay.specs.declared.rebuilding.Kind.TheVariants.{Block, Request, Useless}

-- the fault is that of the definition, or memory ran out where it was asked for
abbrev pub IsWhy : {A : Type 0} → Result A Fault → Type 0 → Fault → Type 0
IsWhy read paid fault = (read ≡ Err fault) ⊎ ((fault ≡ Memory) × paid)

abbrev pub kind_number : Kind → ℕ
kind_number Block = 0
kind_number Request = 1
kind_number Useless = 2

-- The kind of an answer is told, and its text is given; or a fault is told, and nothing changed.
abbrev pub GivesKind :
    Result (Kind × List ℕ) Fault → Type 0 → List ℕ → List ℕ → ℕ → ℕ → ℕ → ℕ → ℕ → Type 0
GivesKind answer paid old new len-old len kind-old kind status =
    ((told : Kind × List ℕ) × (answer ≡ Ok told) × (kind ≡ kind_number told.0)
    × IsGiven told.1 old new len status)
    ⊎ ((fault : Fault) × (status ≡ status_of fault) × IsWhy answer paid fault × (new ≡ old)
    × (len ≡ len-old) × (kind ≡ kind-old))

-- the status of what is wrong with a message
abbrev pub wrong_status : NoMessage → ℕ
wrong_status Damaged = 65538
wrong_status (Bad fault) = status_of fault

-- this is wrong with the command and the payload, or memory ran out where it was asked for
abbrev pub IsWrong : List ℕ → List ℕ → Type 0 → NoMessage → Type 0
IsWrong name payload paid why =
    (wrong_message name payload ≡ Some why) ⊎ ((why ≡ Bad Memory) × paid)

-- what is told of an envelope: 0, or the status of what is wrong with it
abbrev pub verdict_of : Option NoMessage → ℕ
verdict_of None = 0
verdict_of (Some why) = wrong_status why

-- An envelope is at the front and is judged; or too few bytes are; or the stream ends here, or
-- memory ran out where it was asked for. But for the first, nothing changed.
abbrev pub IsCut : List ℕ → ℕ → ℕ → ℕ → ℕ → ℕ → Type 0
IsCut bytes len-old len told-old told status =
    ((wrong : Option NoMessage) × (cut_at bytes ≡ Whole len wrong) × (status ≡ 0)
    × (told ≡ verdict_of wrong))
    ⊎ ((len ≡ len-old) × (told ≡ told-old) × (((status ≡ 65537) × (cut_at bytes ≡ Partial))
    ⊎ ((fault : Fault) × (status ≡ status_of fault) × ((cut_at bytes ≡ Broken fault)
    ⊎ ((fault ≡ Memory) × EnvelopeTakesMemory bytes)))))
