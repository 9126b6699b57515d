-- What is due, in the order of virtual time.
use Rattle.std.specs.Prelude.{◌≡◌, ℕ, ◌+◌, ◌-◌, ◌^◌, ◌≤◌, List, [], ◌∷◌, Option, Some, None, if◌then◌else◌, min}
use Rattle.std.specs.Ordering.{is_le, nat_cmp, ordering_then}
use Rattle.std.specs.declared.cmp.Ordering.{Ordering}
use Rattle.cb_net_plan.specs.declared.due.LinkAct.{LinkAct}
use Rattle.cb_net_plan.specs.declared.due.LinkAct.TheVariants.{Arrival, Tick}
use Rattle.cb_net_plan.specs.declared.due.DueEvent.{DueEvent}
use Rattle.cb_net_plan.specs.declared.due.LinkEvent.{LinkEvent}

-- an arrival comes before a tick
abbrev pub act_number : LinkAct → ℕ
act_number Arrival = 0
act_number Tick = 1

-- which of two is due first: by time, then by end, number, generation and what happens
abbrev pub due_order : DueEvent → DueEvent → Ordering
due_order a b =
    ordering_then (nat_cmp a.time b.time)
    (ordering_then (nat_cmp a.event.end b.event.end)
    (ordering_then (nat_cmp a.event.number b.event.number)
    (ordering_then (nat_cmp a.event.generation b.event.generation)
    (nat_cmp (act_number a.event.act) (act_number b.event.act)))))

-- the virtual time; what is due, the first one first; and for how many there is room already
pub record Agenda : Type 0 where
  pub time : ℕ
  pub waiting : List DueEvent
  pub room : ℕ

-- a list in order, with one more at its place
abbrev pub put_in : DueEvent → List DueEvent → List DueEvent
put_in due [] = due ∷ []
put_in due (first ∷ later) =
    if is_le (due_order due first) then due ∷ first ∷ later else first ∷ put_in due later

-- any list, in order
abbrev pub in_order : List DueEvent → List DueEvent
in_order [] = []
in_order (due ∷ rest) = put_in due (in_order rest)

-- so long after a time, or the last one
abbrev pub later : ℕ → ℕ → ℕ
later time delay = min (time + delay) (2 ^ 64 - 1)

-- what is due once an event is put in that is due so long from now
abbrev pub with_event : ℕ → LinkEvent → Agenda → List DueEvent
with_event delay event agenda =
    put_in (record { time = later agenda.time delay; event = event }) agenda.waiting

-- The first of those that are due is taken out, if there is one: the time is its time then, and
-- never goes back.
abbrev pub IsNext : Agenda → Option DueEvent → Agenda → Type 0
IsNext old None new = (old.waiting ≡ []) × (new ≡ old)
IsNext old (Some due) new =
    (old.waiting ≡ due ∷ new.waiting) × (new.time ≡ due.time) × (old.time ≤ due.time)
