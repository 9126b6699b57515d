use Rattle.cb_audit.proofs.Numbers.{AreEvenBelow}
use Rattle.cb_audit.proofs.counting.first_known.Given as goal

abbrev pub invariant-loop-peer : goal.invariant-loop-peer
invariant-loop-peer l = AreEvenBelow l.connections l.audited l.peer
