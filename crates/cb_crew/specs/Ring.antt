-- How contracts see a crew's ring and the hands that share it. The ring is the run queue: a hand
-- claims a desk from its front, and gives it back at its back.
use Rattle.std.specs.Prelude.{◌≡◌, ℕ, ◌+◌, ◌-◌, ◌<◌, ◌≤◌, Bool, false, List, [], ◌∷◌, ◌++◌, length, map, slice_index_or}
use Rattle.std.specs.List.{sum_by, range_with_len}
use Rattle.atomic_table.specs.Seated.{TableId}
use Rattle.cb_crew.specs.Desks.{Desks, DesksReached, held_by}

-- how many peers a crew can have
abbrev pub most_peers : ℕ
most_peers = 1024

-- what identifies a desk as long as its crew lasts
pub record DeskName : Type 0 where
  pub inbox : TableId  -- the name of its inbox
  pub label : ℕ  -- the label of the first connection's work

-- what the ring sees of a desk
pub record Shown (X : Type 0) : Type 0 where
  pub peer : ℕ
  pub name : DeskName
  pub taken : ℕ  -- how many marks were taken from its inbox
  pub closed : Bool  -- its latest work is closed
  pub told : ℕ  -- how many marks its seat was told were queued
  pub whole : X  -- the desk itself

-- what a hand remembers of the desk that it gave back last
pub record Last (X : Type 0) : Type 0 where
  pub gives : ℕ  -- how often it gave a desk back
  pub peer : ℕ
  pub grew : ℕ  -- how many marks were taken while the hand held it
  pub closed : Bool  -- its latest work was closed then
  pub taken : ℕ  -- how many marks had been taken from its inbox then, in all
  pub told : ℕ  -- how many marks its seat had been told were queued
  pub claimed : List X  -- the desk as it was claimed
  pub gave : List X  -- and as it was given back

-- The stages of a crew: its desks are made; its hands claim and give them; one hand keeps them all.
pub data CrewStage : Type 0 where
  making : CrewStage
  running : CrewStage
  finishing : CrewStage

pub record RingState : Type 0 where
  pub name : TableId  -- which ring it is: no other has this name
  pub capacity : ℕ  -- for how many desks it has room

pub record HandState (X : Type 0) : Type 0 where
  pub ring : TableId  -- the name of its ring
  pub hands : ℕ  -- for how many handlers it stands
  pub names : List DeskName  -- the names of the crew's desks, one for each peer, in their order
  pub handlers : ℕ  -- how many handlers the crew has
  pub stage : CrewStage
  pub held : List (Shown X)  -- the desks that it holds
  pub last : Last X

abbrev pub peers_of : {X : Type 0} → List (Shown X) → List ℕ
peers_of {X} desks = map (λ (s : Shown X). s.peer) desks

-- it is the crew's desk for its peer, with the name that the crew gave it
pub record IsOfCrew {X : Type 0} (names : List DeskName) (s : Shown X) : Type 0 where
  pub exists : s.peer < length names
  pub named : slice_index_or names s.peer s.name ≡ s.name

-- the hand belongs to this ring, which has room for all desks of the crew
abbrev pub IsHandOf : {X : Type 0} → RingState → HandState X → Type 0
IsHandOf ring hand = (hand.ring ≡ ring.name) × (length hand.names ≤ ring.capacity)

-- no other hand stands for a handler, so no other hand holds a desk
abbrev pub StandsForAll : {X : Type 0} → HandState X → Type 0
StandsForAll hand = hand.hands ≡ hand.handlers

-- the one desk that is held is this one, by its peer and its name
pub record IsHeld {X : Type 0} (held : List (Shown X)) (s : Shown X) : Type 0 where
  pub before : Shown X  -- the desk when it was claimed
  pub only : held ≡ before ∷ []
  pub same_peer : s.peer ≡ before.peer
  pub same_inbox : s.name.inbox ≡ before.name.inbox
  pub same_label : s.name.label ≡ before.name.label

-- The hand holds the desks of all peers, each once. Give each peer any weight: the peers of its
-- desks weigh together as much as all peers.
abbrev pub HoldsAll : {X : Type 0} → HandState X → Type 0
HoldsAll hand =
    (weight : ℕ → ℕ)
    → sum_by weight (peers_of hand.held) ≡ sum_by weight (range_with_len 0 (length hand.names))

-- The hand holds what some handler holds in a state to which acts of the crew's core lead.
pub record HoldsInTurn {X : Type 0} (hand : HandState X) : Type 0 where
  pub desks : Desks
  pub reached : DesksReached (length hand.names) hand.handlers desks
  pub handler : ℕ
  pub exists : handler < hand.handlers
  pub holds : held_by desks handler ≡ peers_of hand.held

-- ---- what each call does to a hand

abbrev pub no_last : {X : Type 0} → Last X
no_last = record {
  gives = 0;
  peer = 0;
  grew = 0;
  closed = false;
  taken = 0;
  told = 0;
  claimed = [];
  gave = [];
}

-- how many marks had been taken from its inbox when the desk was claimed
abbrev pub taken_before : {X : Type 0} → List (Shown X) → ℕ
taken_before [] = 0
taken_before (s ∷ rest) = s.taken

-- what a hand remembers after it gave back a desk, given what it remembered before and what it held
abbrev pub last_of : {X : Type 0} → Last X → List (Shown X) → Shown X → Last X
last_of {X} last held s = record {
  gives = last.gives + 1;
  peer = s.peer;
  grew = s.taken - taken_before held;
  closed = s.closed;
  taken = s.taken;
  told = s.told;
  claimed = map (λ (t : Shown X). t.whole) held;
  gave = s.whole ∷ [];
}

-- the one hand of a new ring, which stands for all handlers
abbrev pub opening_hand : {X : Type 0} → TableId → ℕ → HandState X
opening_hand ring handlers = record {
  ring = ring;
  hands = handlers;
  names = [];
  handlers = handlers;
  stage = making;
  held = [];
  last = no_last;
}

-- after it put this new desk into the ring
abbrev pub made_hand : {X : Type 0} → HandState X → Shown X → HandState X
made_hand h s = record {
  ring = h.ring;
  hands = h.hands;
  names = h.names ++ s.name ∷ [];
  handlers = h.handlers;
  stage = h.stage;
  held = h.held;
  last = h.last;
}

-- after all desks were made
abbrev pub running_hand : {X : Type 0} → HandState X → HandState X
running_hand h = record {
  ring = h.ring;
  hands = h.hands;
  names = h.names;
  handlers = h.handlers;
  stage = running;
  held = h.held;
  last = h.last;
}

-- the new hand for one handler, and the old hand, which stands for one fewer
abbrev pub hired_hand : {X : Type 0} → HandState X → HandState X
hired_hand h = record {
  ring = h.ring;
  hands = 1;
  names = h.names;
  handlers = h.handlers;
  stage = h.stage;
  held = [];
  last = no_last;
}

abbrev pub hiring_hand : {X : Type 0} → HandState X → HandState X
hiring_hand h = record {
  ring = h.ring;
  hands = h.hands - 1;
  names = h.names;
  handlers = h.handlers;
  stage = h.stage;
  held = h.held;
  last = h.last;
}

-- after it claimed this desk, and after it gave it back
abbrev pub claimed_hand : {X : Type 0} → HandState X → Shown X → HandState X
claimed_hand h s = record {
  ring = h.ring;
  hands = h.hands;
  names = h.names;
  handlers = h.handlers;
  stage = h.stage;
  held = s ∷ [];
  last = h.last;
}

abbrev pub given_hand : {X : Type 0} → HandState X → Shown X → HandState X
given_hand h s = record {
  ring = h.ring;
  hands = h.hands;
  names = h.names;
  handlers = h.handlers;
  stage = h.stage;
  held = [];
  last = last_of h.last h.held s;
}

-- after it took over another hand's handlers
abbrev pub joined_hand : {X : Type 0} → HandState X → HandState X → HandState X
joined_hand h other = record {
  ring = h.ring;
  hands = h.hands + other.hands;
  names = h.names;
  handlers = h.handlers;
  stage = h.stage;
  held = h.held;
  last = h.last;
}

-- after it claimed this desk to keep it
abbrev pub kept_hand : {X : Type 0} → HandState X → Shown X → HandState X
kept_hand h s = record {
  ring = h.ring;
  hands = h.hands;
  names = h.names;
  handlers = h.handlers;
  stage = finishing;
  held = h.held ++ s ∷ [];
  last = h.last;
}
