use Rattle.std.proofs.Common.{◌≤◌, ◌∙◌, ap, sym, refl, subst, heap_items, ℕ}
use Rattle.cb_net_plan.proofs.Derived.{bound_derived, from_derived, to_derived}
use Rattle.cb_net_plan.proofs.Ordered.{in_time, none_before, popped}
use Rattle.cb_net_plan.proofs.queue.Queue.next.Goals as goal

pub invariant_of-self-inside : goal.invariant_of-self-inside
invariant_of-self-inside c =
    let heap = to_derived (heap_items c.self.inside.heap) c.self.inside.ordered in
    let least = bound_derived c.in-Some.field-0 (heap_items c.pop.new.self) (c.in-Some.ensures.below_top heap) in (
      from_derived (heap_items c.pop.new.self) ((c.in-Some.ensures.heap_order heap).0),
      (none_before c.in-Some.field-0 (heap_items c.pop.new.self) least, tt),
    )

pub returns-in-Some-clause-next : goal.returns-in-Some-clause-next
returns-in-Some-clause-next c =
    let old = heap_items c.self.inside.heap in
    let new = heap_items c.pop.new.self in
    let due = c.in-Some.field-0 in
    let least = bound_derived due new (c.in-Some.ensures.below_top (to_derived old c.self.inside.ordered)) in (
      sym (ap (λ queue. queue.waiting) c.self.view_is) ∙ popped old new due c.in-Some.ensures.permutation least,
      refl,
      subst (λ (time : ℕ). time ≤ due.0.time) (ap (λ queue. queue.time) c.self.view_is)
          (in_time c.self.inside.time old new due c.self.inside.not_past c.in-Some.ensures.permutation),
    )
