-- How contracts see an inbox and its seats.
use Rattle.std.specs.Prelude.{◌≡◌, ℕ, ◌+◌, ◌<◌, ◌≤◌, Bool, true, false, Option, List, [], ◌∷◌, ◌++◌, length}
use Rattle.atomic_table.specs.Seated.{TableId}
use Rattle.crossbeam_queue.specs.Passes.{Pass, view, ruled_capacity}
use Rattle.crossbeam_queue.specs.declared.array_queue.Slotted.{Slotted}
use Rattle.crossbeam_queue.specs.declared.array_queue.Doing.{Doing}
use Rattle.cb_crew.specs.Line.{connections}
use Rattle.cb_crew.specs.declared.queued.Queued.{Queued}
use Rattle.cb_crew.specs.declared.rule.SeatView.{SeatView}
use Rattle.cb_crew.specs.Queued.{is_open, has_ended}
use Rattle.cb_crew.specs.Rule.{IsOfALine, seat_view, longer}

pub record InboxState : Type 0 where
  pub peer : ℕ
  pub capacity : ℕ  -- how many items and marks it may hold
  pub name : TableId  -- which inbox it is: no other has this name

-- A seat, or a note of one. The reader's seat knows all that was queued, the taker's seat all that
-- was taken. A seat knows a prefix of any other list, as far as notes told it.
pub record SeatState (Q : Type 0) : Type 0 where
  pub inbox : TableId  -- the name of its inbox
  pub queued : List Q
  pub taken : List Q

-- nothing was queued or taken
abbrev pub opening_seat : {Q : Type 0} → TableId → SeatState Q
opening_seat name = record { inbox = name; queued = []; taken = [] }

-- the seat after it queued this mark, and after it took it
abbrev pub queued_more : {Q : Type 0} → SeatState Q → Q → SeatState Q
queued_more seat mark = record {
  inbox = seat.inbox;
  queued = seat.queued ++ mark ∷ [];
  taken = seat.taken;
}

abbrev pub taken_more : {Q : Type 0} → SeatState Q → Q → SeatState Q
taken_more seat mark = record {
  inbox = seat.inbox;
  queued = seat.queued;
  taken = seat.taken ++ mark ∷ [];
}

-- the seat after a note told it what was taken, or what was queued: it keeps the longer list
abbrev pub told_of_taken : {Q : Type 0} → SeatState Q → SeatState Q → SeatState Q
told_of_taken seat note = record {
  inbox = seat.inbox;
  queued = seat.queued;
  taken = longer seat.taken note.taken;
}

abbrev pub told_of_queued : {Q : Type 0} → SeatState Q → SeatState Q → SeatState Q
told_of_queued seat note = record {
  inbox = seat.inbox;
  queued = longer seat.queued note.queued;
  taken = seat.taken;
}

-- A full capacity of the queued marks isn't known to the seat as taken.
abbrev pub IsFullBy : {Q : Type 0} → SeatState Q → ℕ → Type 0
IsFullBy seat capacity = length seat.taken + capacity ≤ length seat.queued

-- This mark may be queued next. An open mark may after an end mark, while there were fewer than 256
-- connections. Any other mark may unless the last mark is an end mark.
pub record MayQueue {M O : Type 0} (queued : List (Queued M O)) (mark : Queued M O) : Type 0 where
  pub in_turn : has_ended queued ≡ is_open mark
  pub few : is_open mark ≡ true → connections is_open queued < 256

-- ---- how they are defined over the queue

abbrev pub inbox_state : {T V R A : Type 0} → ℕ → Slotted (Option T) (Doing T V) R A → InboxState
inbox_state peer line = record {
  peer = peer;
  capacity = ruled_capacity line;
  name = line.table.shared.table_id;
}

abbrev pub seat_state : {M O : Type 0} → Pass (Queued M O) (SeatView M O) → SeatState (Queued M O)
seat_state pass = record {
  inbox = pass.table_id;
  queued = (view pass).queued;
  taken = (view pass).taken;
}

-- A seat with these rights: no slot of the queue is out with it, and what it knows is part of a
-- line to which acts lead.
pub record IsSeat {M O : Type 0} (reads takes : Bool) (pass : Pass (Queued M O) (SeatView M O))
    : Type 0 where
  pub at_rest : pass.me.1 ≡ []
  pub reads_is : (view pass).reads ≡ reads
  pub takes_is : (view pass).takes ≡ takes
  pub sees : IsOfALine reads takes (view pass).queued (view pass).taken

-- such a seat of a new inbox
pub record IsFirst {M O : Type 0} (reads takes : Bool) (pass : Pass (Queued M O) (SeatView M O))
    : Type 0 where
  pub at_rest : pass.me.1 ≡ []
  pub view_is : view pass ≡ seat_view reads takes [] []

-- the reader's seat, with the number of marks that it queued and of their connections
pub record Counts {M O : Type 0} (pass : Pass (Queued M O) (SeatView M O)) (count connected : ℕ)
    : Type 0 where
  pub is_reader : IsSeat true false pass
  pub count_is : count ≡ length (view pass).queued
  pub connected_is : connected ≡ connections is_open (view pass).queued
