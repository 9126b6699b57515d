use Rattle.std.proofs.Common.{ap, ◌∙◌}
use Rattle.cb_node.specs.Slot.{uses_of}
use Rattle.cb_node.specs.Node.{NodeState}
use Rattle.cb_node.proofs.Slots.{none_of}
use Rattle.cb_node.proofs.node.Node.has_slot.Goals as goal

pub returns-in-None : goal.returns-in-None
returns-in-None g c =
    record {
      none = λ no.
          none_of c.args.inbound c.args.self.now (uses_of c.as_slice.result.now) c.kind-first.result.0 c.kind-first.result.1
          (ap uses_of c.as_slice.ensures.value ∙ ap (λ (node : NodeState). node.used) c.self.view_is) c.kind-first.ensures.first c.kind-first.ensures.end
          (c.lowest_unused.ensures.none c.in-None.is);
    }
