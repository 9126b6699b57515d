-- The rule of an inbox's queue. What waits in the queue is the inbox of a line to which acts of the
-- crew's core lead. At most one seat has the right to queue, and at most one the right to take. The
-- seat with the right to queue knows all that was queued; the seat with the right to take knows all
-- that was taken. Every seat knows a prefix of the rest.
use Rattle.std.specs.Prelude.{◌≡◌, ℕ, Bool, true, false, if◌then◌else◌, nat_lt, List, [], ◌∷◌, ◌++◌, length, All}
use mathlib.Core.Option.{some}
use lib.ListN.{get_elem?}
use Rattle.cb_crew.specs.Line.{Line, LineReached}
use Rattle.cb_crew.specs.Laws.{IsBeginning}
use Rattle.cb_crew.specs.declared.queued.Queued.{Queued}
use Rattle.cb_crew.specs.declared.rule.SeatView.{SeatView}
use Rattle.cb_crew.specs.Queued.{is_end, is_open, IsFresh}

-- what a seat with these rights knows of a line
pub record Knows {Q : Type 0} (line : Line Q) (reads takes : Bool) (queued taken : List Q)
    : Type 0 where
  pub queued_begins : IsBeginning queued line.queued
  pub taken_begins : IsBeginning taken line.taken
  pub all_queued : reads ≡ true → queued ≡ line.queued
  pub all_taken : takes ≡ true → taken ≡ line.taken

-- acts lead to some line of which a seat with these rights knows these lists
pub record IsOfALine {M O : Type 0} (reads takes : Bool) (queued taken : List (Queued M O))
    : Type 0 where
  pub line : Line (Queued M O)
  pub reached : LineReached is_end is_open line
  pub knows : Knows line reads takes queued taken

abbrev pub seat_view : {M O : Type 0} → (reads takes : Bool) → (queued taken : List (Queued M O))
    → SeatView M O
seat_view reads takes queued taken = record {
  reads = reads;
  takes = takes;
  queued = queued;
  taken = taken;
}

-- the first seat: it has both rights, and nothing was queued or taken
abbrev pub first_view : {M O : Type 0} → SeatView M O
first_view = seat_view true true [] []

-- a seat without rights that knows nothing
abbrev pub spent_view : {M O : Type 0} → SeatView M O
spent_view = seat_view false false [] []

-- the two halves of a seat, without the right to take and without the right to queue
abbrev pub without_taking : {M O : Type 0} → SeatView M O → SeatView M O
without_taking v = seat_view v.reads false v.queued v.taken

abbrev pub without_reading : {M O : Type 0} → SeatView M O → SeatView M O
without_reading v = seat_view false v.takes v.queued v.taken

-- a seat after it queued a mark, and after it took one
abbrev pub queued_view : {M O : Type 0} → SeatView M O → Queued M O → SeatView M O
queued_view v mark = seat_view v.reads v.takes (v.queued ++ mark ∷ []) v.taken

abbrev pub taken_view : {M O : Type 0} → SeatView M O → Queued M O → SeatView M O
taken_view v mark = seat_view v.reads v.takes v.queued (v.taken ++ mark ∷ [])

-- the longer of two lists; if they are equally long, the one that was told
abbrev pub longer : {Q : Type 0} → List Q → List Q → List Q
longer known told = if nat_lt (length told) (length known) then known else told

-- what a seat knows of a list after it was told; a seat that knows the whole list learns nothing
abbrev pub learned : {Q : Type 0} → Bool → List Q → List Q → List Q
learned whole known told = if whole then known else longer known told

-- a seat after it was told what another one knows
abbrev pub informed : {M O : Type 0} → SeatView M O → SeatView M O → SeatView M O
informed v w =
    seat_view v.reads v.takes (learned v.reads v.queued w.queued) (learned v.takes v.taken w.taken)

-- the rule, for what waits and for what each seat knows
pub record IsInbox {M O : Type 0} (fresh : O → Type 0) (items : List (Queued M O))
    (views : List (SeatView M O)) : Type 0 where
  pub line : Line (Queued M O)
  pub reached : LineReached is_end is_open line
  pub content : line.inbox ≡ items
  pub openings : All (IsFresh fresh) items
  pub reader : ℕ  -- the number of the seat that may queue
  pub taker : ℕ  -- the number of the seat that may take
  pub knows : (seat : ℕ) (v : SeatView M O) → get_elem? views seat ≡ some v
      → Knows line v.reads v.takes v.queued v.taken
  pub reads : (seat : ℕ) (v : SeatView M O) → get_elem? views seat ≡ some v → v.reads ≡ true
      → seat ≡ reader
  pub takes : (seat : ℕ) (v : SeatView M O) → get_elem? views seat ≡ some v → v.takes ≡ true
      → seat ≡ taker
