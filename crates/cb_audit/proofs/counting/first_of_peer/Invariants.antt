use Rattle.cb_audit.proofs.Numbers.{AreEvenUpTo}
use Rattle.cb_audit.proofs.counting.first_of_peer.Given as goal

abbrev pub invariant-loop-earlier : goal.invariant-loop-earlier
invariant-loop-earlier l = AreEvenUpTo l.connections l.audited l.peer l.earlier
