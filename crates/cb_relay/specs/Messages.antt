-- Messages (Bitcoin's peer-to-peer protocol): what is wrong with a command and a payload, and when
-- finding that out takes memory.
use Rattle.std.specs.Prelude.{◌≡◌, ◌≤◌, ℕ, nat_lt, if◌then◌else◌, List, length, Option, Some, None}
use Rattle.cb_base.specs.declared.fault.Fault.{Fault}
use Rattle.cb_base.specs.declared.fault.Fault.TheVariants.{Oversize}
use Rattle.cb_relay.specs.declared.message.NoMessage.{NoMessage}
use Rattle.cb_relay.specs.declared.message.NoMessage.TheVariants as reasons
use Rattle.cb_wire.specs.Command.{IsCommand, is_command, known_command}
use Rattle.cb_wire.specs.Envelope.{item_under}
use Rattle.cb_wire.specs.Grammar.{IsPaid, IsUnpaid}
use Rattle.cb_wire.specs.declared.command.Command.{Command}
use Rattle.cb_wire.specs.declared.item.Item.{Item}
use Rattle.cb_wire.specs.declared.item.Item.TheVariants.{Bad, Damaged, Good}

-- What is wrong with an item of a stream, if anything.
abbrev pub wrong_with : Item → Option NoMessage
wrong_with (Good message) = None
wrong_with Damaged = Some reasons.Damaged
wrong_with (Bad command fault) = Some (reasons.Bad fault)

-- What is wrong with a payload under this name. Nothing is, if the command is unknown.
abbrev pub wrong_payload : List ℕ → List ℕ → Option NoMessage
wrong_payload name payload = wrong_with (item_under (known_command name) name payload)

-- The same for any bytes: the name must have the form of a command, and the payload at most
-- 4,000,000 bytes.
abbrev pub wrong_message : List ℕ → List ℕ → Option NoMessage
wrong_message name payload =
    if is_command name
    then (if nat_lt 4000000 (length payload)
    then Some (reasons.Bad Oversize)
    else wrong_payload name payload)
    else Some reasons.Damaged

-- Reading the payload of a known command takes memory.
abbrev pub PayloadTakesMemory : List ℕ → List ℕ → Type 0
PayloadTakesMemory name payload =
    (command : Command) × (known_command name ≡ Some command) × IsPaid (Some command) payload

-- The same for any bytes.
abbrev pub MessageTakesMemory : List ℕ → List ℕ → Type 0
MessageTakesMemory name payload =
    IsCommand name × (length payload ≤ 4000000) × PayloadTakesMemory name payload

-- The fault of the payload comes before any allocation.
abbrev pub IsToldUnpaid : List ℕ → List ℕ → Fault → Type 0
IsToldUnpaid name payload fault =
    IsCommand name × (length payload ≤ 4000000)
    × ((command : Command) × (known_command name ≡ Some command)
    × IsUnpaid (Some command) payload fault)
