-- What is told of the envelope at the front of a stream (Bitcoin's peer-to-peer protocol).
use Rattle.std.specs.Prelude.{◌≡◌, ℕ, List, drop, take, Some}
use Rattle.cb_relay.specs.Messages.{PayloadTakesMemory, wrong_with}
use Rattle.cb_relay.specs.declared.envelope.CutEnvelope.{CutEnvelope}
use Rattle.cb_relay.specs.declared.envelope.CutEnvelope.TheVariants as cuts
use Rattle.cb_wire.specs.Command.{command_in}
use Rattle.cb_wire.specs.Envelope.{front_at, item_at}
use Rattle.cb_wire.specs.declared.envelope.Front.{Front}
use Rattle.cb_wire.specs.declared.envelope.Front.TheVariants.{Broken, Partial, Whole}

abbrev pub cut_by : Front → List ℕ → CutEnvelope
cut_by Partial bytes = cuts.Partial
cut_by (Broken fault) bytes = cuts.Broken fault
cut_by (Whole size) bytes = cuts.Whole size (wrong_with (item_at size bytes))

-- Too few bytes; or a fault that ends the stream; or a whole envelope, with the length of its
-- payload and what is wrong with it.
abbrev pub cut_at : List ℕ → CutEnvelope
cut_at bytes = cut_by (front_at bytes) bytes

-- The envelope has a known command, and reading its payload of this length takes memory.
abbrev pub IsPaidFor : ℕ → List ℕ → Type 0
IsPaidFor size bytes =
    (name : List ℕ) × (command_in (take 12 (drop 4 (take 24 bytes))) ≡ Some name)
    × PayloadTakesMemory name (take size (drop 24 bytes))

-- A whole envelope is at the front, and reading its payload takes memory.
abbrev pub EnvelopeTakesMemory : List ℕ → Type 0
EnvelopeTakesMemory bytes = (size : ℕ) × (front_at bytes ≡ Whole size) × IsPaidFor size bytes
