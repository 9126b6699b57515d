-- A crew that has no works yet.
use Rattle.std.specs.Prelude.{◌≡◌, ℕ, List, map, All}
use Rattle.std.specs.List.{range_with_len}
use Rattle.cb_crew.specs.Seat.{InboxState, SeatState, opening_seat}
use Rattle.cb_crew.specs.Ring.{HandState, opening_hand}
use Rattle.cb_crew.specs.Crew.{CrewState}

-- the empty inboxes of so many peers, in their order, each with its reader's seat and its vacancy,
-- the desk without a work
pub record AreLines {Q : Type 0} (peers capacity : ℕ) (inboxes : List InboxState)
    (readers : List (SeatState Q)) (vacancies : List InboxState) : Type 0 where
  pub in_order : map (λ (inbox : InboxState). inbox.peer) inboxes ≡ range_with_len 0 peers
  pub capacities : All (λ (inbox : InboxState). inbox.capacity ≡ capacity) inboxes
  pub readers_are : readers ≡ map opening_seat (map (λ (inbox : InboxState). inbox.name) inboxes)
  pub vacancies_are : vacancies ≡ inboxes

-- the one hand of a crew whose ring is empty
abbrev pub IsOpeningHandOf : {X : Type 0} → CrewState → HandState X → Type 0
IsOpeningHandOf crew hand = hand ≡ opening_hand crew.ring.name crew.handlers
