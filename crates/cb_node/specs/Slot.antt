-- How contracts see the slots of a node.
use Rattle.std.specs.Prelude.{◌≡◌, ℕ, ◌<◌, Bool, true, false, List, [], ◌∷◌, ◌++◌, length, map, All, Option, Some, None, slice_index_or, slice_set}
use Rattle.std.specs.declared.thread.PromisedHandle.{PromisedHandle}
use Rattle.atomic_table.specs.Seated.{TableId}
use Rattle.cb_crew.specs.declared.queued.Queued.{Queued}
use Rattle.cb_crew.specs.Seat.{InboxState}
use Rattle.cb_crew.specs.declared.reader_side.ReaderSide.{ReaderSide}
use Rattle.cb_crew.specs.declared.reader_side.ReaderSide.TheVariants as side
use Rattle.cb_crew.specs.Crew.{AreHandlersOf, CrewState, inbox_of, names_of}
use Rattle.cb_crew.specs.Desk.{DeskState}
use Rattle.cb_crew.specs.Turn.{HandlerState}
use Rattle.cb_service.specs.declared.promises.OfCrew.{OfCrew}
use Rattle.cb_service.specs.Readers.{inbox_for, seat_for}
use Rattle.cb_service.specs.Service.{HandBack, queued_by}
use Rattle.cb_session.specs.declared.input.Input.{Input}
use Rattle.cb_peers.specs.Reading.{AreSpelled, IsUnread}
use Rattle.cb_hall.specs.Badge.{BadgeState}
use Rattle.cb_peers.specs.declared.link.Link.{Link}
use Rattle.cb_node.specs.declared.slot.Seating.{Seating}
use Rattle.cb_node.specs.declared.slot.Seating.TheVariants as seating

-- A slot: its inbox, whether it ever had a socket, and whether its latest connection waits for one.
pub record SlotState : Type 0 where
  pub inbox : InboxState
  pub used : Bool
  pub waits : Bool

-- a slot that never had a socket
abbrev pub new_slot : InboxState → SlotState
new_slot inbox = record { inbox = inbox; used = false; waits = true }

-- the slot got a socket
abbrev pub attached : SlotState → SlotState
attached slot = record { inbox = slot.inbox; used = true; waits = false }

-- the slot's next connection was opened
abbrev pub reopened : SlotState → SlotState
reopened slot = record { inbox = slot.inbox; used = slot.used; waits = true }

-- it is the inbox of a peer of this crew
pub record IsInboxOf (crew : CrewState) (inbox : InboxState) : Type 0 where
  pub peer : inbox.peer < length crew.inboxes
  pub name : inbox.name ≡ slice_index_or (names_of crew) inbox.peer inbox.name

-- ---- all slots

abbrev pub inboxes_of : List SlotState → List InboxState
inboxes_of slots = map (λ (slot : SlotState). slot.inbox) slots

-- the names of their inboxes
abbrev pub names_in : List SlotState → List TableId
names_in slots = map (λ (slot : SlotState). slot.inbox.name) slots

-- which slots ever had a socket
abbrev pub uses_of : List SlotState → List Bool
uses_of slots = map (λ (slot : SlotState). slot.used) slots

-- the slots are those of the crew's peers, in their order
pub record AreSlotsOf (crew : CrewState) (slots : List SlotState) : Type 0 where
  pub inboxes : inboxes_of slots ≡ crew.inboxes
  pub each : All (IsInboxOf crew) crew.inboxes

-- the connection of this slot waits for its socket
abbrev pub WaitsAt : List SlotState → ℕ → Type 0
WaitsAt slots n = slice_index_or (map (λ (slot : SlotState). slot.waits) slots) n false ≡ true

-- The same slots, of which the same ever had a socket.
pub record AreAlike (old new : List SlotState) : Type 0 where
  pub inboxes : inboxes_of new ≡ inboxes_of old
  pub uses : uses_of new ≡ uses_of old

-- The same slots, of which this one got a socket.
pub record AreAlikeBut (n : ℕ) (old new : List SlotState) : Type 0 where
  pub inboxes : inboxes_of new ≡ inboxes_of old
  pub uses : uses_of new ≡ slice_set (uses_of old) n true

-- ---- where a slot's side of its inbox is

-- A connection that waits for its socket lasts.
abbrev pub LastsIf : {M O : Type 0} → Bool → ReaderSide M O → Type 0
LastsIf waits (side.Live seat) = Unit {0}
LastsIf waits (side.Ended seat) = waits ≡ false

-- what the sockets of all connections gave; that of one which waits for its socket gave nothing
abbrev pub all_read : Bool → List (List ℕ) → List (List ℕ)
all_read true read = read ++ [] ∷ []
all_read false read = read

-- What was queued of each connection is what the bytes of its socket spell (`read`: of those that
-- don't wait). Of one that waits for its socket nothing was queued.
pub record IsRead {O : Type 0} (waits : Bool) (read : List (List ℕ)) (marks : List (Queued Input O))
    : Type 0 where
  pub spelled : AreSpelled (all_read waits read) marks
  pub unread : waits ≡ true → IsUnread marks

-- The slot has its side of this inbox, or the thread of a connection that doesn't wait has it.
abbrev pub IsSeatingOf : {W : Type 0} → TableId → Bool → List (List ℕ) → Option (Seating W) → Type 0
IsSeatingOf name waits read (Some (seating.Kept held)) =
    (inbox_of held ≡ name) × LastsIf waits held × IsRead waits read (queued_by held)
IsSeatingOf name waits read (Some (seating.Lent thread)) =
    ((inbox_for thread).name ≡ name) × (waits ≡ false) × IsRead true read (seat_for thread).queued
IsSeatingOf name waits read None = ⊥

-- Nothing was asked under the badge.
abbrev pub IsNew : BadgeState → Type 0
IsNew badge = (badge.count ≡ 0) × (badge.full ≡ false)

-- Nothing was asked under the badge, if there is one, and it is this slot's.
abbrev pub IsUnspent : ℕ → Option BadgeState → Type 0
IsUnspent slot None = Unit {0}
IsUnspent slot (Some badge) = IsNew badge × (badge.connection.peer ≡ slot)

-- it is a link of this slot, if there is one
abbrev pub IsLinkIn : ℕ → Option Link → Type 0
IsLinkIn slot None = Unit {0}
IsLinkIn slot (Some link) = link.peer ≡ slot

-- ---- the handlers' threads

-- these threads have all handlers of the crew, the crew's first handler first
pub record AreThreadsOf {W M : Type 0} (crew : CrewState)
    (threads : List (PromisedHandle (HandlerState (DeskState W M)) (OfCrew W M))) : Type 0 where
  pub handlers : List (HandlerState (DeskState W M))
  pub have : HandBack crew threads handlers
  pub all : AreHandlersOf crew handlers
