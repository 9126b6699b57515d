-- The threads of a crew, and what each promises to return.
use Rattle.std.specs.Prelude.{◌≡◌, ℕ, ◌<◌, ◌^◌, ◌⊎◌, List, length, map, slice_index_or, All, Option, Some, None}
use Rattle.std.specs.declared.thread.PromisedHandle.{PromisedHandle}
use Rattle.atomic_table.specs.Seated.{TableId}
use Rattle.cb_crew.specs.declared.queued.Queued.{Queued}
use Rattle.cb_crew.specs.declared.queued.Queued.TheVariants as queued
use Rattle.cb_crew.specs.Seat.{SeatState, queued_more}
use Rattle.cb_crew.specs.declared.reader_side.ReaderSide.{ReaderSide}
use Rattle.cb_crew.specs.declared.reader_side.ReaderSide.TheVariants as side
use Rattle.cb_crew.specs.Desk.{DeskState}
use Rattle.cb_crew.specs.Turn.{HandlerState}
use Rattle.cb_crew.specs.Crew.{CrewState, names_of}
use Rattle.cb_service.specs.declared.promises.OfCrew.{OfCrew}

-- whose thread it is: the handler and its crew
abbrev pub handler_of : {W M : Type 0} → PromisedHandle (HandlerState (DeskState W M)) (OfCrew W M)
    → HandlerState (DeskState W M)
handler_of thread = thread.promise.handler.value

abbrev pub crew_of : {W M : Type 0} → PromisedHandle (HandlerState (DeskState W M)) (OfCrew W M)
    → CrewState
crew_of thread = thread.promise.crew.value

-- the name is that of the inbox of this crew's peer
abbrev pub IsInboxAt : CrewState → ℕ → TableId → Type 0
IsInboxAt crew peer name = name ≡ slice_index_or (names_of crew) peer name

-- There is a seat. It is of the inbox with this name, and has room for an end mark.
abbrev pub HoldsSeat : {Q : Type 0} → TableId → Option (SeatState Q) → Type 0
HoldsSeat name (Some seat) = (seat.inbox ≡ name) × (length seat.queued < 2 ^ 48)
HoldsSeat name None = ⊥

-- a thread for each of these handlers of the crew, in their order
pub record HandBack {W M : Type 0} (crew : CrewState)
    (threads : List (PromisedHandle (HandlerState (DeskState W M)) (OfCrew W M)))
    (handlers : List (HandlerState (DeskState W M))) : Type 0 where
  pub handlers_are : map handler_of threads ≡ handlers
  pub crew_is : All (λ thread. crew_of thread ≡ crew) threads

-- all that a side queued
abbrev pub queued_by : {M O : Type 0} → ReaderSide M O → List (Queued M O)
queued_by (side.Live seat) = seat.queued
queued_by (side.Ended seat) = seat.queued

-- Nothing was read, and the side is that of the seat. Or the account tells how what the seat had
-- queued came to what the side queued.
abbrev pub IsLeftBy : {M O K : Type 0} → (K → List (Queued M O) → List (Queued M O) → Type 0)
    → SeatState (Queued M O) → ReaderSide M O → Option K → Type 0
IsLeftBy tells seat left None = left ≡ side.Live seat
IsLeftBy tells seat left (Some account) = tells account seat.queued (queued_by left)

-- the seat after the end mark of its connection, if that lasted
abbrev pub ended_of : {M O : Type 0} → ReaderSide M O → SeatState (Queued M O)
ended_of (side.Live seat) = queued_more seat queued.End
ended_of (side.Ended seat) = seat

-- the side is unchanged, or its connection was ended
abbrev pub EndsOrStays : {M O : Type 0} → ReaderSide M O → ReaderSide M O → Type 0
EndsOrStays old new = (new ≡ old) ⊎ (new ≡ side.Ended (ended_of old))

-- the same, and an end mark was queued behind fewer than 2^40 marks
abbrev pub HasEnded : {M O : Type 0} → ReaderSide M O → ReaderSide M O → Type 0
HasEnded old new =
    (new ≡ old) ⊎ ((new ≡ side.Ended (ended_of old)) × (length (queued_by old) < 2 ^ 40))
