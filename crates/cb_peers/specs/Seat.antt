-- A reader's seat of its peer's inbox, during one connection.
use Rattle.std.specs.Prelude.{◌≡◌, ℕ, ◌+◌, ◌<◌, ◌≤◌, ◌^◌, Bool, true, false, List, [], ◌∷◌, ◌++◌, length, take, drop, Option, None, Some, refl}
use Rattle.std.specs.List.{flat_map}
use Rattle.std.proofs.Common.{◌∙◌}
use Rattle.cb_crew.specs.declared.queued.Queued.{Queued}
use Rattle.cb_crew.specs.declared.queued.Queued.TheVariants as queued
use Rattle.cb_crew.specs.Seat.{InboxState}
use Rattle.cb_crew.specs.declared.reader_side.ReaderSide.{ReaderSide}
use Rattle.cb_crew.specs.declared.reader_side.ReaderSide.TheVariants as side
use Rattle.cb_crew.specs.Crew.{inbox_of}
use Rattle.cb_crew.specs.Work.{openings_of}
use Rattle.cb_session.specs.declared.input.Input.{Input}
use Rattle.cb_service.specs.Service.{queued_by}

-- the input that a mark is, if it is one
abbrev pub input_in : {O : Type 0} → Queued Input O → List Input
input_in (queued.Item input) = input ∷ []
input_in queued.End = []
input_in (queued.Open opening) = []

-- A seat: its peer's inbox, how many marks were queued before its connection, and the reader's side
-- of the inbox.
pub record SeatView (O : Type 0) : Type 0 where
  pub inbox : InboxState
  pub first : ℕ
  pub side : Option (ReaderSide Input O)

-- all that the side queued, over all connections
abbrev pub marks_of : {O : Type 0} → Option (ReaderSide Input O) → List (Queued Input O)
marks_of None = []
marks_of (Some s) = queued_by s

-- the connection was ended
abbrev pub is_ended : {O : Type 0} → Option (ReaderSide Input O) → Bool
is_ended None = true
is_ended (Some (side.Live seat)) = false
is_ended (Some (side.Ended seat)) = true

-- the inputs that were put in this connection, in order
abbrev pub put_in : {O : Type 0} → SeatView O → List Input
put_in seat = flat_map input_in (drop seat.first (marks_of seat.side))

-- all that was queued before this connection
abbrev pub before_in : {O : Type 0} → SeatView O → List (Queued Input O)
before_in seat = take seat.first (marks_of seat.side)

-- The second is a later state of the same seat: of the same inbox, and in the same connection.
-- Nothing was opened since.
pub record IsSameSeat {O : Type 0} (old new : SeatView O) : Type 0 where
  pub inbox : new.inbox ≡ old.inbox
  pub first : new.first ≡ old.first
  pub before : before_in new ≡ before_in old
  pub openings : openings_of (marks_of new.side) ≡ openings_of (marks_of old.side)

-- One more mark was queued, which is these inputs. Now the connection is ended or not.
pub record HasTaken {O : Type 0} (old new : SeatView O) (inputs : List Input) (ended : Bool)
    : Type 0 where
  pub put : put_in new ≡ put_in old ++ inputs
  pub counts : length (marks_of new.side) ≡ length (marks_of old.side) + 1
  pub ended_is : is_ended new.side ≡ ended
  pub same : IsSameSeat old new

-- The side is there and is of this inbox. It queued `count` marks, fewer than 2^48, and at least as
-- many as were queued before this connection.
abbrev pub IsSeatOf : {O : Type 0} → InboxState → ℕ → ℕ → Option (ReaderSide Input O) → Type 0
IsSeatOf inbox first count None = ⊥
IsSeatOf inbox first count (Some s) =
    (inbox_of s ≡ inbox.name) × (count ≡ length (queued_by s)) × (count < 2 ^ 48) × (first ≤ count)

-- ---- laws

pub same_none : {O : Type 0} (a : SeatView O) → IsSameSeat a a
same_none a = record { inbox = refl; first = refl; before = refl; openings = refl }

pub same_then : {O : Type 0} (a b c : SeatView O) → IsSameSeat a b → IsSameSeat b c → IsSameSeat a c
same_then a b c h k = record {
  inbox = k.inbox ∙ h.inbox;
  first = k.first ∙ h.first;
  before = k.before ∙ h.before;
  openings = k.openings ∙ h.openings;
}
