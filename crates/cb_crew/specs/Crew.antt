-- How contracts see a crew, its handlers and its readers' sides.
use Rattle.std.specs.Prelude.{◌≡◌, ℕ, ◌<◌, ◌≤◌, ◌^◌, List, [], ◌∷◌, ◌++◌, length, map, All}
use Rattle.std.specs.List.{sum_by, range_with_len}
use Rattle.atomic_table.specs.Seated.{TableId}
use Rattle.cb_crew.specs.declared.queued.Queued.{Queued}
use Rattle.cb_crew.specs.declared.queued.Queued.TheVariants as queued
use Rattle.cb_crew.specs.Seat.{InboxState, SeatState, opening_seat}
use Rattle.cb_crew.specs.declared.reader_side.ReaderSide.{ReaderSide}
use Rattle.cb_crew.specs.declared.reader_side.ReaderSide.TheVariants as side
use Rattle.cb_crew.specs.Ring.{DeskName, RingState, HandState, Shown, most_peers, running, IsOfCrew, peers_of}
use Rattle.cb_crew.specs.Turn.{HandlerState}

pub record CrewState : Type 0 where
  pub ring : RingState
  pub inboxes : List InboxState  -- one for each peer, in their order
  pub handlers : ℕ  -- how many handlers it has
  -- the labels of the works with which it was made, one for each peer, in their order
  pub labels : List ℕ

abbrev pub names_of : CrewState → List TableId
names_of crew = map (λ (inbox : InboxState). inbox.name) crew.inboxes

-- each peer has its inbox, and the ring has room for all desks
pub record IsCrew (crew : CrewState) : Type 0 where
  pub some : 1 ≤ length crew.inboxes
  pub few : length crew.inboxes ≤ most_peers
  pub in_order : map (λ (inbox : InboxState). inbox.peer) crew.inboxes
      ≡ range_with_len 0 (length crew.inboxes)
  pub working : 1 ≤ crew.handlers
  pub room : length crew.inboxes ≤ crew.ring.capacity

-- these are the names of the crew's desks, in the order of their peers
pub record AreDeskNames (crew : CrewState) (names : List DeskName) : Type 0 where
  pub inboxes : map (λ (name : DeskName). name.inbox) names ≡ names_of crew
  pub labels : map (λ (name : DeskName). name.label) names ≡ crew.labels

-- a hand of this crew, while it runs, that holds no desk
pub record IsFreeHandOf {X : Type 0} (crew : CrewState) (hand : HandState X) : Type 0 where
  pub ring_is : hand.ring ≡ crew.ring.name
  pub names_is : AreDeskNames crew hand.names
  pub handlers_is : hand.handlers ≡ crew.handlers
  pub stage_is : hand.stage ≡ running
  pub free : hand.held ≡ []

-- one of the crew's handlers
abbrev pub IsHandlerOf : {X : Type 0} → CrewState → HandlerState X → Type 0
IsHandlerOf crew handler = IsFreeHandOf crew handler.hand × (handler.hand.hands ≡ 1)

-- the first handler's list has room for the desks of all peers
abbrev pub FirstHasRoom : {X : Type 0} → CrewState → List (HandlerState X) → Type 0
FirstHasRoom crew [] = length crew.inboxes ≤ 0
FirstHasRoom crew (first ∷ others) = length crew.inboxes ≤ first.room

-- all handlers of the crew, with the crew's first handler first
pub record AreHandlersOf {X : Type 0} (crew : CrewState) (handlers : List (HandlerState X))
    : Type 0 where
  pub each : All (IsHandlerOf crew) handlers
  pub all : length handlers ≡ crew.handlers
  pub first : FirstHasRoom crew handlers

-- ---- what a reader's side queued

abbrev pub inbox_of : {M O : Type 0} → ReaderSide M O → TableId
inbox_of (side.Live seat) = seat.inbox
inbox_of (side.Ended seat) = seat.inbox

-- all that a reader queued, with the end mark that a live side is given at the end
abbrev pub all_queued : {M O : Type 0} → ReaderSide M O → List (Queued M O)
all_queued (side.Live seat) = seat.queued ++ queued.End ∷ []
all_queued (side.Ended seat) = seat.queued

-- a live side has queued fewer than 2^48 marks, so its end mark can be queued
abbrev pub HasPlace : {M O : Type 0} → ReaderSide M O → Type 0
HasPlace (side.Live seat) = length seat.queued < 2 ^ 48
HasPlace (side.Ended seat) = Unit {0}

-- the readers' sides of all peers, in their order
pub record AreSidesOf {M O : Type 0} (crew : CrewState) (sides : List (ReaderSide M O))
    : Type 0 where
  pub inboxes : map inbox_of sides ≡ names_of crew
  pub places : All HasPlace sides

-- ---- a new crew

-- a crew of so many peers and handlers, with inboxes of this capacity
pub record IsNewCrew (peers handlers capacity : ℕ) (crew : CrewState) : Type 0 where
  pub peers_are : length crew.inboxes ≡ peers
  pub handlers_are : crew.handlers ≡ handlers
  pub capacities : All (λ (inbox : InboxState). inbox.capacity ≡ capacity) crew.inboxes

-- the readers' seats of all peers, in their order, with nothing queued
abbrev pub AreOpeningSeats : {Q : Type 0} → CrewState → List (SeatState Q) → Type 0
AreOpeningSeats crew seats = seats ≡ map opening_seat (names_of crew)

-- none of these handlers made a turn
abbrev pub MadeNoTurn : {X : Type 0} → List (HandlerState X) → Type 0
MadeNoTurn {X} handlers = All (λ (handler : HandlerState X). handler.turns ≡ 0) handlers

-- ---- a crew that finishes

-- these are the desks of all peers, each once
pub record AreAllDesks {X : Type 0} (crew : CrewState) (desks : List (Shown X)) : Type 0 where
  pub names : List DeskName
  pub names_is : AreDeskNames crew names
  pub each : (weight : ℕ → ℕ)
      → sum_by weight (peers_of desks) ≡ sum_by weight (range_with_len 0 (length crew.inboxes))
  pub named : All (IsOfCrew names) desks

-- the desks of all peers, in the order of their peers
pub record AreInOrder {X : Type 0} (crew : CrewState) (desks : List (Shown X)) : Type 0 where
  pub peers : peers_of desks ≡ range_with_len 0 (length crew.inboxes)
  pub names : AreDeskNames crew (map (λ (desk : Shown X). desk.name) desks)
