use Rattle.cb_crew.proofs.RingCalls.{places_owe}
use Rattle.cb_crew.proofs.ring.Ring.in_turn.Goals as goal

pub learn_as-requires-clause-rule : goal.learn_as-requires-clause-rule
learn_as-requires-clause-rule g c = places_owe g.D.Travels.shown c.hand.inside.pass _ c.hand.view_is c.hand.invariant c.requires.stage
