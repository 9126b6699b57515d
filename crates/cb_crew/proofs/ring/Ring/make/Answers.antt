use Rattle.cb_crew.proofs.RingCalls.{make_owes}
use Rattle.cb_crew.proofs.ring.Ring.make.Goals as goal

pub push_as-requires-clause-rule : goal.push_as-requires-clause-rule
push_as-requires-clause-rule g c =
    make_owes g.D.Travels.shown _ c.hand.inside.pass _ _ c.hand.view_is c.hand.invariant c.requires.stage c.requires.hand.1 c.requires.next.0
