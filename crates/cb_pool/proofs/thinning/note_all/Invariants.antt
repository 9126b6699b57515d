use Rattle.cb_pool.proofs.Thinned.{Covering}
use Rattle.cb_pool.proofs.thinning.note_all.Given as goal

abbrev pub invariant-loop-pooled : goal.invariant-loop-pooled
invariant-loop-pooled l = Covering l.marks l.coins.entries l.gone.keys l.members.list l.pooled-iterator
