use Rattle.cb_audit.proofs.Numbers.{AreEvenWithTrace}
use Rattle.cb_audit.proofs.counting.first_with_trace.Given as goal

abbrev pub invariant-loop-one : goal.invariant-loop-one
invariant-loop-one l = AreEvenWithTrace l.connections l.audited l.one-index
