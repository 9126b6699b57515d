use Rattle.cb_audit.proofs.Orders.{InOrderUpTo}
use Rattle.cb_audit.proofs.audited.are_in_order.Given as goal

abbrev pub invariant-loop-next : goal.invariant-loop-next
invariant-loop-next l = InOrderUpTo l.audited l.next
