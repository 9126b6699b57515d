use Rattle.std.proofs.Common.{◌≤◌, ◌<◌, ◌∙◌, ◌∷◌, ℕ, ap, heap_items, heap_len, length, rules, subst, sym}
use Rattle.std.specs.BinaryHeap.{HeapUnchanged, IsHeap, heap_capacity}
use Rattle.std.specs.List.Sorted.{IsPermutation}
use Rattle.std.specs.declared.cmp.Reverse.{Reverse}
use Rattle.cb_net_plan.specs.declared.due.DueEvent.{DueEvent}
use Rattle.cb_net_plan.specs.Agenda.{Agenda, in_order, put_in, with_event}
use Rattle.cb_net_plan.proofs.Derived.{from_derived, to_derived}
use Rattle.cb_net_plan.proofs.Ordered.{AreFrom, dues, either, error_and, full, length_in_order, later_than, none_past, pushed, turned}
use Rattle.cb_net_plan.proofs.queue.Queue.put.Goals as goal

pub invariant_of-self-inside : goal.invariant_of-self-inside
invariant_of-self-inside c =
    let old = heap_items c.self.inside.heap in
    let new = heap_items c.push.new.self in
    let due : Reverse DueEvent = record { 0 = record { time = c.saturating_add-time.result; event = c.args.event } } in
    let late : c.self.inside.time ≤ c.saturating_add-time.result = later_than c.self.inside.time c.args.delay c.saturating_add-time.result c.saturating_add-time.ensures (search rules) in (
      either c.push.result _ (HeapUnchanged c.self.inside.heap c.push.new.self) (IsHeap turned new) c.push.ensures.heap_order c.push.ensures.unchanged (λ keeps. from_derived new (keeps (to_derived old c.self.inside.ordered))) (λ same. subst (IsHeap turned) (sym same.0) c.self.inside.ordered),
      (either c.push.result (IsPermutation (due ∷ old) new) (HeapUnchanged c.self.inside.heap c.push.new.self) (AreFrom c.self.inside.time new) c.push.ensures.permutation c.push.ensures.unchanged (λ moved. none_past c.self.inside.time old new due c.self.inside.not_past late moved) (λ same. subst (AreFrom c.self.inside.time) (sym same.0) c.self.inside.not_past), tt),
    )

pub returns-in_err-push-clause-full : goal.returns-in_err-push-clause-full
returns-in_err-push-clause-full c =
    let none : heap_len c.self.inside.heap < heap_capacity c.self.inside.heap → ⊥ = λ l. (let e = c.in_err-push.ensures.succeeds l in cc) in
    let within : heap_capacity c.self.inside.heap ≤ length (in_order (dues (heap_items c.self.inside.heap))) =
    subst (λ (len : ℕ). heap_capacity c.self.inside.heap ≤ len) (c.self.inside.heap.data.ok.0 ∙ sym (length_in_order (heap_items c.self.inside.heap))) (full (heap_len c.self.inside.heap) (heap_capacity c.self.inside.heap) none) in
    error_and c.from_residual.result _ _ c.from_residual.ensures.1 (subst (λ (queue : Agenda). queue.room ≤ length queue.waiting) c.self.view_is within)

pub returns-clause-ok : goal.returns-clause-ok
returns-clause-ok c =
    pushed (heap_items c.self.inside.heap) (heap_items c.push.new.self) (record { 0 = record { time = c.saturating_add-time.result; event = c.args.event } }) c.in_ok-push.ensures.permutation
    ∙ ap (λ (time : ℕ). put_in (record { time = time; event = c.args.event }) (in_order (dues (heap_items c.self.inside.heap)))) c.saturating_add-time.ensures
    ∙ ap (with_event c.args.delay c.args.event) c.self.view_is
