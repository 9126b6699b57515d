use Rattle.cb_pool.proofs.Thinned.{Turning}
use Rattle.cb_pool.proofs.thinning.turn_all.Given as goal

abbrev pub invariant-loop-pooled : goal.invariant-loop-pooled
invariant-loop-pooled l = Turning l.fn.marks l.marks l.gone.keys l.members.list l.pooled-iterator
