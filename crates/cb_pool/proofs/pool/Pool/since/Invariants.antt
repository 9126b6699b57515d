use Rattle.std.proofs.Common.{◌≡◌, ◌++◌}
use Rattle.cb_pool.specs.Listing.{since_of}
use Rattle.cb_pool.proofs.pool.Pool.since.Given as goal

abbrev pub invariant-loop-pooled : goal.invariant-loop-pooled
invariant-loop-pooled l = l.txids.items ++ since_of l.pooled-iterator l.fn.number ≡ since_of l.fn.self.list l.fn.number
