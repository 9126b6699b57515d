use Rattle.cb_crew.proofs.RingCalls.{hire_owes}
use Rattle.cb_crew.proofs.ring.Ring.hire.Goals as goal

pub another-requires-clause-rule : goal.another-requires-clause-rule
another-requires-clause-rule g c = hire_owes g.D.Travels.shown c.hand.inside.pass _ c.hand.view_is c.requires.stage c.requires.hand.1
