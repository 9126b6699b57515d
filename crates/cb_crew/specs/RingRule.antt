-- The rule of a crew's ring, for the desks that wait in it and for what each hand knows.
use Rattle.std.specs.Prelude.{◌≡◌, ℕ, ◌+◌, ◌<◌, List, [], ◌∷◌, ◌++◌, length, take, drop, map, slice_index, All}
use Rattle.std.specs.List.{sum_by, range_with_len}
use mathlib.Core.Option.{some}
use lib.ListN.{get_elem?}
use Rattle.cb_crew.specs.Desks.{Desks, DesksReached, held_by}
use Rattle.cb_crew.specs.Ring.{DeskName, Shown, Last, CrewStage, making, running, finishing, IsOfCrew, peers_of, no_last, last_of}

-- what all hands know of the crew
pub record RingCrew : Type 0 where
  pub names : List DeskName
  pub handlers : ℕ
  pub stage : CrewStage

pub record HandView (X : Type 0) : Type 0 where
  pub crew : RingCrew
  pub numbers : List ℕ  -- the handlers for which it stands; it acts as the first of them
  pub held : List (Shown X)
  pub last : Last X

abbrev pub numbers_of : {X : Type 0} → HandView X → List ℕ
numbers_of v = v.numbers

abbrev pub held_peers : {X : Type 0} → HandView X → List ℕ
held_peers v = peers_of v.held

-- Each number from 0 to n - 1 is in exactly one place, in this list or with one hand, and no other
-- number is there. Give each number any weight: those that are there weigh together as much as 0 to
-- n - 1.
abbrev pub EachOnce : {X : Type 0} → List ℕ → (HandView X → List ℕ) → List (HandView X) → ℕ → Type 0
EachOnce {X} waiting has views n =
    (weight : ℕ → ℕ)
    → sum_by weight waiting + sum_by (λ (v : HandView X). sum_by weight (has v)) views
    ≡ sum_by weight (range_with_len 0 n)

-- A hand that stands for a handler knows the crew. A hand that stands for none holds no desk. All
-- desks that it holds are the crew's.
pub record IsHandOfCrew {X : Type 0} (crew : RingCrew) (v : HandView X) : Type 0 where
  pub knows : 0 < length v.numbers → v.crew ≡ crew
  pub idle : length v.numbers ≡ 0 → v.held ≡ []
  pub named : All (IsOfCrew crew.names) v.held

-- In this arrangement of the desks, the first of the hand's handlers holds what the hand holds. Its
-- other handlers hold nothing.
pub record Holds {X : Type 0} (desks : Desks) (v : HandView X) : Type 0 where
  pub first : held_by desks (slice_index v.numbers 0) ≡ peers_of v.held
  pub others : All (λ k. held_by desks k ≡ []) (drop 1 v.numbers)

-- the desks are arranged as some acts of the crew's core lead to
pub record AreDesks {X : Type 0} (crew : RingCrew) (waiting : List (Shown X))
    (views : List (HandView X)) : Type 0 where
  pub desks : Desks
  pub reached : DesksReached (length crew.names) crew.handlers desks
  pub ring_is : desks.ring ≡ peers_of waiting
  pub holds : (seat : ℕ) (v : HandView X) → get_elem? views seat ≡ some v → 0 < length v.numbers
      → Holds desks v

-- While desks are made, they wait in the order of their peers. While the crew runs, they move by
-- acts of the crew's core. While it finishes, nothing is said here.
abbrev pub AtStage : {X : Type 0} → CrewStage → RingCrew → List (Shown X) → List (HandView X)
    → Type 0
AtStage making crew waiting views = peers_of waiting ≡ range_with_len 0 (length crew.names)
AtStage running crew waiting views = AreDesks crew waiting views
AtStage finishing crew waiting views = Unit {0}

-- the rule, for what the ring sees of its desks
pub record IsRing {X : Type 0} (waiting : List (Shown X)) (views : List (HandView X)) : Type 0 where
  pub crew : RingCrew
  pub hands : (seat : ℕ) (v : HandView X) → get_elem? views seat ≡ some v → IsHandOfCrew crew v
  pub waiting_named : All (IsOfCrew crew.names) waiting
  pub each_handler : EachOnce [] numbers_of views crew.handlers
  pub each_desk : EachOnce (peers_of waiting) held_peers views (length crew.names)
  pub moves : AtStage crew.stage crew waiting views

-- the rule, for the desks themselves
abbrev pub IsRingOf : {X D : Type 0} → (D → Shown X) → List D → List (HandView X) → Type 0
IsRingOf shown desks views = IsRing (map shown desks) views

-- ---- what each move does to what a hand knows

abbrev pub with_crew : {X : Type 0} → HandView X → RingCrew → HandView X
with_crew v crew = record { crew = crew; numbers = v.numbers; held = v.held; last = v.last }

abbrev pub with_numbers : {X : Type 0} → HandView X → List ℕ → HandView X
with_numbers v numbers = record { crew = v.crew; numbers = numbers; held = v.held; last = v.last }

abbrev pub with_held : {X : Type 0} → HandView X → List (Shown X) → HandView X
with_held v held = record { crew = v.crew; numbers = v.numbers; held = held; last = v.last }

-- a hand that stands for no handler
abbrev pub idle_view : {X : Type 0} → HandView X
idle_view = record {
  crew = record { names = []; handlers = 0; stage = making };
  numbers = [];
  held = [];
  last = no_last;
}

-- the first hand, of a crew of one handler that has no desks yet
abbrev pub first_view : {X : Type 0} → HandView X
first_view = record {
  crew = record { names = []; handlers = 1; stage = making };
  numbers = 0 ∷ [];
  held = [];
  last = no_last;
}

-- the crew with one more handler, and the hand, which stands for that one too
abbrev pub grown_crew : RingCrew → RingCrew
grown_crew crew = record { names = crew.names; handlers = crew.handlers + 1; stage = crew.stage }

abbrev pub grown_view : {X : Type 0} → HandView X → HandView X
grown_view v = record {
  crew = grown_crew v.crew;
  numbers = v.numbers ++ v.crew.handlers ∷ [];
  held = v.held;
  last = v.last;
}

-- the crew with one more desk, and what its hand knows
abbrev pub made_crew : {X : Type 0} → RingCrew → Shown X → RingCrew
made_crew crew s = record {
  names = crew.names ++ s.name ∷ [];
  handlers = crew.handlers;
  stage = crew.stage;
}

abbrev pub made_view : {X : Type 0} → HandView X → Shown X → HandView X
made_view v s = with_crew v (made_crew v.crew s)

-- the crew at another stage, and a hand of the running crew
abbrev pub at_stage : RingCrew → CrewStage → RingCrew
at_stage crew stage = record { names = crew.names; handlers = crew.handlers; stage = stage }

abbrev pub running_view : {X : Type 0} → HandView X → HandView X
running_view v = with_crew v (at_stage v.crew running)

-- the new hand, which stands for the second handler, and the old hand, which goes on without it
abbrev pub hired_view : {X : Type 0} → HandView X → HandView X
hired_view v = record {
  crew = v.crew;
  numbers = take 1 (drop 1 v.numbers);
  held = [];
  last = no_last;
}

abbrev pub hiring_view : {X : Type 0} → HandView X → HandView X
hiring_view v = with_numbers v (take 1 v.numbers ++ drop 2 v.numbers)

abbrev pub claimed_view : {X : Type 0} → HandView X → Shown X → HandView X
claimed_view v s = with_held v (s ∷ [])

abbrev pub given_view : {X : Type 0} → HandView X → Shown X → HandView X
given_view v s = record {
  crew = v.crew;
  numbers = v.numbers;
  held = [];
  last = last_of v.last v.held s;
}

abbrev pub joined_view : {X : Type 0} → HandView X → HandView X → HandView X
joined_view v w = with_numbers v (v.numbers ++ w.numbers)

abbrev pub kept_view : {X : Type 0} → HandView X → Shown X → HandView X
kept_view v s = record {
  crew = at_stage v.crew finishing;
  numbers = v.numbers;
  held = v.held ++ s ∷ [];
  last = v.last;
}
