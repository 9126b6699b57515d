-- What a peer's reader queues of its connections.
use Rattle.std.specs.Prelude.{◌≡◌, ℕ, ◌≤◌, ◌⊎◌, Bool, true, false, List, [], ◌∷◌, ◌++◌, length, Option}
use Rattle.std.specs.List.{AllZip, flat_map}
use Rattle.cb_crew.specs.declared.queued.Queued.{Queued}
use Rattle.cb_crew.specs.declared.queued.Queued.TheVariants as queued
use Rattle.cb_crew.specs.Queued.{has_ended}
use Rattle.cb_crew.specs.declared.work.Given.{Given}
use Rattle.cb_crew.specs.declared.work.Given.TheVariants as given
use Rattle.cb_crew.specs.declared.reader_side.ReaderSide.{ReaderSide}
use Rattle.cb_crew.specs.Crew.{all_queued}
use Rattle.cb_crew.specs.Work.{connections_of, openings_of}
use Rattle.cb_wire.specs.declared.item.Item.{Item}
use Rattle.cb_base.specs.declared.read_end.ReadEnd.{ReadEnd}
use Rattle.cb_session.specs.declared.input.Input.{Input}
use Rattle.cb_session.specs.Input.{maybe, said}
use Rattle.cb_session.specs.Putting.{SeatNow}
use Rattle.cb_session.specs.Reading.{IsToPut, Reads}
use Rattle.cb_peers.specs.Seat.{input_in}

-- a seat that counts so many marks, in a connection in which nothing was put
abbrev pub opened : ℕ → Bool → SeatNow
opened count stopped = record { queued = []; ended = false; counted = count; stopped = stopped }

-- A connection was read, until `why`: its reads gave these bytes (`read`). After all that was
-- queued before (`before`), the inputs of its stream were queued, in order and each once, as far as
-- it was read (`Reads`). No other connection was opened.
pub record HasRead {O : Type 0} (input remaining : Option (List ℕ))
    (failed_before failed stopped_before stopped : Bool) (read : List ℕ) (why : ReadEnd)
    (before after : List (Queued Input O)) : Type 0 where
  pub marks : List (Queued Input O)
  pub grown : after ≡ before ++ marks
  pub unopened : openings_of marks ≡ []
  pub now : SeatNow
  pub stopped_is : now.stopped ≡ stopped
  pub reads : Reads input remaining failed_before failed (opened (length before) stopped_before) now
      read why
  pub put : flat_map input_in marks ≡ now.queued
  -- The seat counts no mark that wasn't queued. If reading ended the connection, its end mark is
  -- last.
  pub queued_all : now.counted ≤ length after
  pub ended_last : now.ended ≡ true → has_ended after ≡ true

-- ---- what bytes spell

-- These inputs are a beginning of what is to be put of these bytes (`IsToPut`): each once and in
-- order.
pub record AreSpelledBy (bytes : List ℕ) (inputs : List Input) : Type 0 where
  pub items : List Item
  pub last : Option Input
  pub to_put : IsToPut bytes items last
  pub later : List Input
  pub in_order : inputs ++ later ≡ said items ++ maybe last

-- Behind what was queued before, a beginning of what these bytes spell was queued, and no other
-- connection was opened.
pub record HasQueued {O : Type 0} (bytes : List ℕ) (before after : List (Queued Input O))
    : Type 0 where
  pub marks : List (Queued Input O)
  pub grown : after ≡ before ++ marks
  pub unopened : openings_of marks ≡ []
  pub spelled : AreSpelledBy bytes (flat_map input_in marks)

-- the inputs that a connection gives to its work
abbrev pub input_of : Given Input → List Input
input_of (given.Item input) = input ∷ []
input_of given.End = []

abbrev pub inputs_of : List (Given Input) → List Input
inputs_of queued = flat_map input_of queued

-- What a connection queued is a beginning of what the bytes of its socket spell.
abbrev pub IsSpelled : List ℕ → List (Given Input) → Type 0
IsSpelled bytes queued = AreSpelledBy bytes (inputs_of queued)

-- So it is for each connection in what a reader queued. `read` has the bytes of each, in their
-- order.
abbrev pub AreSpelled : {O : Type 0} → List (List ℕ) → List (Queued Input O) → Type 0
AreSpelled read marks = AllZip IsSpelled read (connections_of marks)

-- Nothing was queued of the latest connection.
abbrev pub IsUnread : {O : Type 0} → List (Queued Input O) → Type 0
IsUnread {O} marks =
    (marks ≡ [])
    ⊎ ((before : List (Queued Input O)) × (opening : O)
    × (marks ≡ before ++ queued.Open opening ∷ []))

-- Each connection of a reader's side queued a beginning of what its socket's bytes spell. These are
-- the bytes of each, in their order.
abbrev pub QueuedWhatItRead : {O : Type 0} → List (List ℕ) → ReaderSide Input O → Type 0
QueuedWhatItRead read left = AreSpelled read (all_queued left)
