use Rattle.cb_crew.proofs.RingCalls.{keep_owes}
use Rattle.cb_crew.proofs.ring.Ring.keep.Goals as goal

pub pop_as-requires-clause-rule : goal.pop_as-requires-clause-rule
pop_as-requires-clause-rule g c = keep_owes g.D.Travels.shown c.hand.inside.pass _ c.hand.view_is c.hand.invariant c.requires.1
