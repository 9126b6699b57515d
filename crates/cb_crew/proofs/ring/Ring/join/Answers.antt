use Rattle.cb_crew.proofs.RingCalls.{join_owes}
use Rattle.cb_crew.proofs.ring.Ring.join.Goals as goal

pub absorb-requires-clause-rule : goal.absorb-requires-clause-rule
absorb-requires-clause-rule g c = join_owes g.D.Travels.shown c.hand.inside.pass c.other.inside.pass _ c.hand.invariant c.other.view_is c.other.invariant c.requires.free
