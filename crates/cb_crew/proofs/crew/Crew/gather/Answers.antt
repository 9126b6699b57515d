use Rattle.std.proofs.Common.{◌∷◌, sym, ap, ◌∙◌}
use Rattle.std.specs.declared.vec.IntoIter.{IntoIter}
use Rattle.cb_crew.proofs.Crews.{hand_of, gather_first, gather_next, other_free}
use Rattle.cb_crew.proofs.crew.Crew.gather.Goals as goal

pub loop-handler-init : goal.loop-handler-init
loop-handler-init g c =
    let got = gather_first c.args.self.now c.args.handlers.items c.into_iter-handler-iterator.result.rest.items c.in-Some.first c.into_parts-hand.result.0 c.requires (sym c.into_iter-handlers.ensures.rest ∙ (c.in-Some.ensures.items ∙ ap (λ (it : IntoIter _ _). c.in-Some.first ∷ it.rest.items) (sym c.into_iter-handler-iterator.ensures.into_iter_gives))) c.into_parts-hand.ensures.hand in
    record { can = tt; finite = tt; free = got.free; others = got.others; count = got.count }

pub join-requires-clause-hand : goal.join-requires-clause-hand
join-requires-clause-hand g c = (
  hand_of c.args.self.now _ c.loop-handler.hand c.self.view_is c.self.invariant c.loop-handler.invariant.free,
  hand_of c.args.self.now _ c.into_parts-other.result.0 c.self.view_is c.self.invariant (other_free c.args.self.now _ _ _ c.in-Some-handler.handler c.loop-handler.invariant.others c.in-Some-handler.ensures.steps.0 c.into_parts-other.ensures.hand),
)

pub join-requires-clause-free : goal.join-requires-clause-free
join-requires-clause-free g c = (other_free c.args.self.now _ _ _ c.in-Some-handler.handler c.loop-handler.invariant.others c.in-Some-handler.ensures.steps.0 c.into_parts-other.ensures.hand).free

pub loop-handler-preserved : goal.loop-handler-preserved
loop-handler-preserved g c =
    let got = gather_next c.args.self.now c.loop-handler.hand c.into_parts-other.result.0 c.join.new.hand _ c.next-in-loop-handler.new.self.rest.items c.in-Some-handler.handler c.loop-handler.invariant.free c.loop-handler.invariant.others c.loop-handler.invariant.count c.in-Some-handler.ensures.steps.0 c.into_parts-other.ensures.hand c.join.ensures in
    record { can = tt; finite = tt; free = got.free; others = got.others; count = got.count }
