use Rattle.cb_crew.proofs.RingCalls.{start_owes}
use Rattle.cb_crew.proofs.ring.Ring.start.Goals as goal

pub another-requires-clause-rule : goal.another-requires-clause-rule
another-requires-clause-rule g c = start_owes g.D.Travels.shown c.hand.inside.pass _ c.hand.view_is c.hand.invariant c.requires.stage c.requires.hand.1
