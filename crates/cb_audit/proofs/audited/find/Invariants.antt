use Rattle.std.proofs.Common.{◌-◌}
use Rattle.cb_audit.proofs.Orders.{IsBetween}
use Rattle.cb_audit.proofs.audited.find.Given as goal

abbrev pub decreases-loop-low : goal.decreases-loop-low
decreases-loop-low l = l.high - l.low

abbrev pub invariant-loop-low : goal.invariant-loop-low
invariant-loop-low l = IsBetween l.audited l.connection l.low l.high
