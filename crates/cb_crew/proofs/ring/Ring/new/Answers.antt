use Rattle.cb_crew.proofs.RingCalls.{begins_of, grow_owes}
use Rattle.cb_crew.proofs.ring.Ring.new.Goals as goal

pub ruled-requires-clause-rule : goal.ruled-requires-clause-rule
ruled-requires-clause-rule g c = begins_of g.D.Travels.shown

pub another-requires-clause-rule : goal.another-requires-clause-rule
another-requires-clause-rule g c = grow_owes g.D.Travels.shown c.loop-grown.pass c.loop-grown.grown c.loop-grown.auto.grown c.loop-grown.invariant.1
