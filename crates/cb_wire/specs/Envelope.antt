-- The envelope of a message (Bitcoin's peer-to-peer protocol): a header of 24 bytes, which has the
-- magic, the command, the length and the checksum, and the payload.
use Rattle.std.specs.Prelude.{◌≡◌, ℕ, ◌+◌, ◌≤◌, not, List, [], ◌∷◌, ◌++◌, length, take, drop, nat_lt, if◌then◌else◌, Option, Some, None, Result, Ok, Err}
use Rattle.std.specs.Int.{w32, to_le_bytes, from_le_bytes}
use Rattle.std.specs.Str.{bytes_eq}
use Rattle.cb_base.specs.declared.fault.Fault.{Fault}
use Rattle.cb_base.specs.declared.fault.Fault.TheVariants.{BadMagic, Oversize}
use Rattle.cb_base.specs.DoubleHash.{double_hash}
use Rattle.cb_wire.specs.declared.command.Command.{Command}
use Rattle.cb_wire.specs.declared.message.Message.{Message}
use Rattle.cb_wire.specs.declared.message.Message.TheVariants.{Unknown}
use Rattle.cb_wire.specs.declared.item.Item.{Item}
use Rattle.cb_wire.specs.declared.item.Item.TheVariants.{Good, Damaged, Bad}
use Rattle.cb_wire.specs.declared.envelope.Front.{Front}
use Rattle.cb_wire.specs.declared.envelope.Front.TheVariants.{Partial, Broken, Whole}
use Rattle.cb_wire.specs.Command.{known_command, command_field, command_in}
use Rattle.cb_wire.specs.Grammar.{HoldsNothing, Spells, name_of, payload_text, payload_at}

-- the magic bytes of regtest
abbrev pub magic : List ℕ
magic = 0xfa ∷ 0xbf ∷ 0xb5 ∷ 0xda ∷ []

-- the first 4 bytes of the payload's double SHA-256
unfoldable pub checksum : List ℕ → List ℕ
checksum payload = take 4 (double_hash payload).0

-- the envelope of a payload and its command's name
unfoldable pub envelope_text : List ℕ → List ℕ → List ℕ
envelope_text name payload =
    magic
    ++ (command_field name ++ (to_le_bytes w32 (length payload) ++ (checksum payload ++ payload)))

-- the text of a message: its whole envelope
abbrev pub text : Message → List ℕ
text message = envelope_text (name_of message) (payload_text message)

-- the bytes are the envelope of a payload that spells the message
pub record IsEnvelopeOf (bytes : List ℕ) (message : Message) : Type 0 where
  pub payload : List ℕ
  pub spelled : Spells (name_of message) payload message
  pub envelope : bytes ≡ envelope_text (name_of message) payload

-- the payload length in a header
abbrev pub told_length : List ℕ → ℕ
told_length bytes = from_le_bytes w32 (take 4 (drop 16 bytes))

-- What is at the front of a stream: too few bytes for an envelope, a header that can't be one, or
-- an envelope whose payload has this length.
unfoldable pub front_at : List ℕ → Front
front_at bytes =
    if nat_lt (length bytes) 24 then Partial
    else if not (bytes_eq (take 4 bytes) magic) then Broken BadMagic
    else if nat_lt 4000000 (told_length bytes) then Broken Oversize
    else if nat_lt (length bytes) (24 + told_length bytes) then Partial
    else Whole (told_length bytes)

-- the item that comes of reading a known command's payload
abbrev pub outcome : Command → Result Message Fault → Item
outcome command (Ok message) = Good message
outcome command (Err fault) = Bad command fault

-- the item owns no memory
abbrev pub KeepsNothing : Item → Type 0
KeepsNothing (Good message) = HoldsNothing message
KeepsNothing Damaged = Unit {0}
KeepsNothing (Bad command fault) = Unit {0}

-- the item of a payload and its command's name
abbrev pub item_under : Option Command → List ℕ → List ℕ → Item
item_under (Some command) name payload = outcome command (payload_at command payload)
item_under None name payload = Good (Unknown name payload)

-- the item of a payload and the command in its header; without a command it is damaged
abbrev pub item_named : Option (List ℕ) → List ℕ → Item
item_named (Some name) payload = item_under (known_command name) name payload
item_named None payload = Damaged

-- the item of an envelope, from its header of 24 bytes and its payload
abbrev pub item_from : List ℕ → List ℕ → Item
item_from header payload =
    if bytes_eq (drop 20 header) (checksum payload)
    then item_named (command_in (take 12 (drop 4 header))) payload
    else Damaged

-- the item of the envelope at the front, whose payload has n bytes
unfoldable pub item_at : ℕ → List ℕ → Item
item_at n bytes = item_from (take 24 bytes) (take n (drop 24 bytes))

-- a whole envelope at the front is within the bytes, and its payload within the limit
abbrev pub IsFrontOf : List ℕ → Front → Type 0
IsFrontOf bytes Partial = Unit {0}
IsFrontOf bytes (Broken fault) = Unit {0}
IsFrontOf bytes (Whole n) = (24 + n ≤ length bytes) × (n ≤ 4000000)
