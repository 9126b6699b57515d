use Rattle.std.proofs.Common.{◌≡◌, ◌++◌}
use Rattle.cb_pool.specs.Listing.{txs_of}
use Rattle.cb_pool.proofs.members.Members.named.Given as goal

abbrev pub invariant-loop-pooled : goal.invariant-loop-pooled
invariant-loop-pooled l = l.named.items ++ txs_of l.pooled-iterator ≡ txs_of l.fn.self.list
