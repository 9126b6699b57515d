use Rattle.std.proofs.Common.{◌≡◌, ◌≤◌, ◌∙◌, length, vec_capacity, sym, ap, subst}
use Rattle.cb_hall.specs.Connections.{most_peers}
use Rattle.cb_node.specs.Slot.{inboxes_of}
use Rattle.cb_node.specs.Node.{NodeState}
use Rattle.cb_node.proofs.Slots.{as_many, kept_if, served, still_of, uses_count}
use Rattle.cb_node.proofs.node.Node.serve.Goals as goal

pub begin-requires-clause-end : goal.begin-requires-clause-end
begin-requires-clause-end g c κs within =
    (subst (λ n. c.kind-first.result.1 ≤ n) (ap (λ (node : NodeState). length node.used) (sym c.self.view_is) ∙ uses_count c.self.inside.slots.items) c.kind-first.ensures.within, c.self.invariant.2)

pub invariant_of-self : goal.invariant_of-self
invariant_of-self g c =
    let old = c.self.inside.slots.items in
    let new = c.begin.new.slots.items in
    let same : inboxes_of new ≡ inboxes_of old = kept_if c.begin.result old new c.begin.ensures.ok c.begin.ensures.err in
    let many : length old ≡ length new = sym (as_many old new same) in (
      still_of c.self.inside.common.crew old new c.self.invariant.0 same,
      subst (λ n. c.self.inside.service.settings.inbound ≤ n) many c.self.invariant.1,
      subst (λ n. n ≤ most_peers) many c.self.invariant.2,
      c.self.invariant.3,
      c.self.invariant.4,
      c.self.invariant.5,
      c.self.invariant.6,
      subst (λ n. n ≤ vec_capacity c.self.inside.sides) many c.self.invariant.7,
    )

pub returns : goal.returns
returns g c =
    served c.args.inbound _ _ _ c.self.inside.slots.items c.begin.new.slots.items c.kind-first.result.0 c.kind-first.result.1 c.args.self.now c.begin.result c.self.view_is
    c.kind-first.ensures.first c.kind-first.ensures.end c.begin.ensures.chosen c.begin.ensures.ok c.begin.ensures.err c.begin.ensures.no_slot
