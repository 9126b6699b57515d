-- The items of a stream: a relation between all bytes that came, the items, the bytes left over,
-- and the fault.
use Rattle.std.specs.Prelude.{◌≡◌, ℕ, ◌+◌, List, [], ◌∷◌, ◌++◌, drop, Option, Some, None}
use Rattle.std.specs.List.{flat_map}
use Rattle.cb_base.specs.declared.fault.Fault.{Fault}
use Rattle.cb_wire.specs.declared.message.Message.{Message}
use Rattle.cb_wire.specs.declared.item.Item.{Item}
use Rattle.cb_wire.specs.declared.envelope.Front.{Front}
use Rattle.cb_wire.specs.declared.envelope.Front.TheVariants.{Partial, Broken, Whole}
use Rattle.cb_wire.specs.Envelope.{front_at, item_at, text}

-- no whole envelope is at the front: the bytes are left over, or there is a fault and nothing is
-- left over
abbrev pub Ends : Front → List ℕ → List ℕ → Option Fault → Type 0
Ends Partial bytes rest fault = (rest ≡ bytes) × (fault ≡ None)
Ends (Broken why) bytes rest fault = (rest ≡ []) × (fault ≡ Some why)
Ends (Whole length) bytes rest fault = ⊥

-- Whole envelopes are cut off the front as long as there are any. Each gives its item. `Ends` says
-- what is left.
abbrev pub Stream : List ℕ → List Item → List ℕ → Option Fault → Type 0
Stream bytes [] rest fault = Ends (front_at bytes) bytes rest fault
Stream bytes (item ∷ items) rest fault =
    (length : ℕ) × (front_at bytes ≡ Whole length) × (item ≡ item_at length bytes)
    × Stream (drop (24 + length) bytes) items rest fault

-- the envelopes of messages, one after another
abbrev pub texts : List Message → List ℕ
texts messages = flat_map text messages

-- the value of an assembler: the bytes left over, and the fault
pub record Assembled : Type 0 where
  pub rest : List ℕ
  pub fault : Option Fault

-- the invariant of an assembler: no whole envelope is in the bytes left over, and after a fault
-- there are none
abbrev pub IsSettled : List ℕ → Option Fault → Type 0
IsSettled rest None = front_at rest ≡ Partial
IsSettled rest (Some why) = rest ≡ []

-- the bytes spell these items, and maybe more
pub record Extends (bytes : List ℕ) (items : List Item) : Type 0 where
  pub more : List Item
  pub rest : List ℕ
  pub fault : Option Fault
  pub stream : Stream bytes (items ++ more) rest fault

-- a reading of the bytes: all items, the bytes left over, and the fault
pub record Reading (bytes : List ℕ) : Type 0 where
  pub items : List Item
  pub rest : List ℕ
  pub fault : Option Fault
  pub stream : Stream bytes items rest fault
