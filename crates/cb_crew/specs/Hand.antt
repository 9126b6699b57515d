-- How a ring and a hand are defined over the queue.
use Rattle.std.specs.Prelude.{◌≡◌, ℕ, ◌<◌, Option, [], length}
use Rattle.atomic_table.specs.Seated.{TableId}
use Rattle.crossbeam_queue.specs.Passes.{Pass, view, ruled_capacity}
use Rattle.crossbeam_queue.specs.declared.array_queue.Slotted.{Slotted}
use Rattle.crossbeam_queue.specs.declared.array_queue.Doing.{Doing}
use Rattle.cb_crew.specs.Ring.{HandState, RingState, making, no_last}
use Rattle.cb_crew.specs.RingRule.{HandView}

abbrev pub ring_state : {T V R A : Type 0} → Slotted (Option T) (Doing T V) R A → RingState
ring_state queue = record { name = queue.table.shared.table_id; capacity = ruled_capacity queue }

-- a hand of the ring with this name, which knows this
abbrev pub state_of : {X : Type 0} → TableId → HandView X → HandState X
state_of ring v = record {
  ring = ring;
  hands = length v.numbers;
  names = v.crew.names;
  handlers = v.crew.handlers;
  stage = v.crew.stage;
  held = v.held;
  last = v.last;
}

abbrev pub hand_state : {X D : Type 0} → Pass D (HandView X) → HandState X
hand_state pass = state_of pass.table_id (view pass)

-- it stands for a handler, and no slot of the queue is out with it
pub record IsHand {X D : Type 0} (pass : Pass D (HandView X)) : Type 0 where
  pub at_rest : pass.me.1 ≡ []
  pub live : 0 < length (view pass).numbers

-- the one hand of a crew of so many handlers, before the first desk is made
pub record IsOpening {X : Type 0} (handlers : ℕ) (v : HandView X) : Type 0 where
  pub stands : length v.numbers ≡ handlers
  pub handlers_is : v.crew.handlers ≡ handlers
  pub names_is : v.crew.names ≡ []
  pub stage_is : v.crew.stage ≡ making
  pub held_is : v.held ≡ []
  pub last_is : v.last ≡ no_last
