use Rattle.std.proofs.Common.{◌≡◌, ◌+◌}
use Rattle.cb_pool.specs.Leaving.{touched_by_all}
use Rattle.cb_pool.specs.Listing.{txs_of}
use Rattle.cb_pool.proofs.refolding.touched_by_members.Given as goal

abbrev pub invariant-loop-pooled : goal.invariant-loop-pooled
invariant-loop-pooled l = l.sum + touched_by_all (txs_of l.pooled-iterator) ≡ l.fn.more + touched_by_all (txs_of l.fn.members.list)
