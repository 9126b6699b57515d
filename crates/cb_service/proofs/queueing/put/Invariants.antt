use Rattle.std.proofs.Common.{◌≡◌}
use Rattle.cb_service.proofs.queueing.put.Given as goal

abbrev pub invariant-loop : goal.invariant-loop
invariant-loop g l = (l.seat ≡ l.fn.seat) × (l.item ≡ l.fn.item)
