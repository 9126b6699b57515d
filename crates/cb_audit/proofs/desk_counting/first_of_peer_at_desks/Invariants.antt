use Rattle.cb_audit.proofs.Numbers.{AreEvenUpTo}
use Rattle.cb_audit.specs.Desks.{traces_of}
use Rattle.cb_audit.proofs.desk_counting.first_of_peer_at_desks.Given as goal

abbrev pub invariant-loop-earlier : goal.invariant-loop-earlier
invariant-loop-earlier g l = AreEvenUpTo l.connections (traces_of l.desks) l.peer l.earlier
