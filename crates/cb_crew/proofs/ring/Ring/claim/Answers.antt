use Rattle.cb_crew.proofs.RingCalls.{claim_owes}
use Rattle.cb_crew.proofs.ring.Ring.claim.Goals as goal

pub pop_as-requires-clause-rule : goal.pop_as-requires-clause-rule
pop_as-requires-clause-rule g c = claim_owes g.D.Travels.shown c.hand.inside.pass _ c.hand.view_is c.hand.invariant c.requires.stage c.requires.hand.1
