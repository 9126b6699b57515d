-- The order that is derived for `DueEvent` is the order of what is due.
use Rattle.std.proofs.Common.{◌≡◌, List, ap, refl, subst, sym}
use Rattle.std.specs.BinaryHeap.{IsHeap, IsUpperBound}
use Rattle.std.specs.Ordering.{nat_cmp, ordering_then}
use Rattle.std.specs.declared.cmp.Ordering.{Ordering}
use Rattle.std.specs.declared.cmp.Reverse.{Reverse}
use Rattle.cb_net_plan.specs.contracts.due.LinkActOrd.TheImpl as acts
use Rattle.cb_net_plan.specs.contracts.due.DueEventOrd.TheImpl as dues
use Rattle.cb_net_plan.specs.declared.due.LinkAct.{LinkAct}
use Rattle.cb_net_plan.specs.declared.due.LinkAct.TheVariants.{Arrival, Tick}
use Rattle.cb_net_plan.specs.declared.due.DueEvent.{DueEvent}
use Rattle.cb_net_plan.specs.Agenda.{act_number, due_order}

of_acts : (a b : LinkAct) → acts.ghosts.cmp a b ≡ nat_cmp (act_number a) (act_number b)
of_acts Arrival Arrival = refl
of_acts Arrival Tick = refl
of_acts Tick Arrival = refl
of_acts Tick Tick = refl

of_dues : (a b : DueEvent) → dues.ghosts.cmp a b ≡ due_order a b
of_dues a b =
    ap (λ (last : Ordering).
    ordering_then (nat_cmp a.time b.time)
    (ordering_then (nat_cmp a.event.end b.event.end)
    (ordering_then (nat_cmp a.event.number b.event.number)
    (ordering_then (nat_cmp a.event.generation b.event.generation) last))))
    (of_acts a.event.act b.event.act)

same : dues.ghosts.cmp ≡ due_order
same = λ i a b. of_dues a b i

-- a heap by the one is a heap by the other
abbrev back : (DueEvent → DueEvent → Ordering) → Reverse DueEvent → Reverse DueEvent → Ordering
back order a b = order b.0 a.0

pub to_derived : (heap : List (Reverse DueEvent)) → IsHeap (back due_order) heap → IsHeap (back dues.ghosts.cmp) heap
to_derived heap h = subst (λ (order : DueEvent → DueEvent → Ordering). IsHeap (back order) heap) (sym same) h

pub from_derived : (heap : List (Reverse DueEvent)) → IsHeap (back dues.ghosts.cmp) heap → IsHeap (back due_order) heap
from_derived heap h = subst (λ (order : DueEvent → DueEvent → Ordering). IsHeap (back order) heap) same h

pub bound_derived : (due : Reverse DueEvent) (heap : List (Reverse DueEvent)) → IsUpperBound (back dues.ghosts.cmp) due heap → IsUpperBound (back due_order) due heap
bound_derived due heap h = subst (λ (order : DueEvent → DueEvent → Ordering). IsUpperBound (back order) due heap) same h
