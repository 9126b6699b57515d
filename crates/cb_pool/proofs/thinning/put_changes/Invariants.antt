use Rattle.cb_pool.proofs.Thinner.{Putting}
use Rattle.cb_pool.proofs.thinning.put_changes.Given as goal

abbrev pub invariant-loop-point : goal.invariant-loop-point
invariant-loop-point l = Putting l.marks l.fn.coins.entries l.coins.entries l.changes.entries l.point-iterator
