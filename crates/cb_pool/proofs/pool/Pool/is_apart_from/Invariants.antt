use Rattle.std.proofs.Common.{take}
use Rattle.cb_pool.specs.Listing.{txs_of}
use Rattle.cb_pool.specs.Touching.{AreApart}
use Rattle.cb_pool.proofs.pool.Pool.is_apart_from.Given as goal

abbrev pub invariant-loop-place : goal.invariant-loop-place
invariant-loop-place l = AreApart (txs_of l.self.list) (take l.place l.block.txs)
