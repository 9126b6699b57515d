use Rattle.std.proofs.Common.{None, ap, subst, sym, ◌∙◌}
use Rattle.cb_crew.specs.Crew.{AreSidesOf, CrewState}
use Rattle.cb_peers.specs.Headline.{IsHeadline}
use Rattle.cb_node.specs.Node.{NodeState}
use Rattle.cb_node.proofs.Slots.{sides_are}
use Rattle.cb_node.proofs.node.Node.finish.Goals as goal

pub finish_peers-desks-requires-clause-sides : goal.finish_peers-desks-requires-clause-sides
finish_peers-desks-requires-clause-sides g c =
    subst (λ (crew : CrewState). AreSidesOf crew c.sides_of-sides.result.0.items) (sym c.deref-3.ensures)
    (sides_are c.self.inside.common.crew c.self.inside.slots.items c.sides_of-sides.result.0.items c.self.invariant.0 c.sides_of-sides.ensures.inboxes c.sides_of-sides.ensures.places)

pub returns : goal.returns
returns g c = record {
  sides = c.sides_of-sides.result.0.items;
  own = subst (λ (crew : CrewState). AreSidesOf crew c.sides_of-sides.result.0.items) (ap (λ (node : NodeState). node.crew) c.self.view_is)
      (sides_are c.self.inside.common.crew c.self.inside.slots.items c.sides_of-sides.result.0.items c.self.invariant.0 c.sides_of-sides.ensures.inboxes c.sides_of-sides.ensures.places);
  spelled = c.sides_of-sides.ensures.read;
  headline = subst (λ (crew : CrewState). IsHeadline (λ sink. None) crew c.sides_of-sides.result.0.items c.finish_peers-desks.result.items)
      (c.deref-3.ensures ∙ ap (λ (node : NodeState). node.crew) c.self.view_is) c.finish_peers-desks.ensures;
}
