use Rattle.cb_audit.proofs.Numbers.{AreEvenBelow}
use Rattle.cb_audit.specs.Desks.{traces_of}
use Rattle.cb_audit.proofs.desk_counting.first_known_at_desks.Given as goal

abbrev pub invariant-loop-peer : goal.invariant-loop-peer
invariant-loop-peer g l = AreEvenBelow l.connections (traces_of l.desks) l.peer
