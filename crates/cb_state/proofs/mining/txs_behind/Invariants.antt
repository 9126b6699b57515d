use Rattle.std.proofs.Common.{◌≡◌, ◌∷◌, take}
use Rattle.cb_pool.specs.Listing.{txs_of}
use Rattle.cb_state.proofs.mining.txs_behind.Given as goal

abbrev pub invariant-loop-place : goal.invariant-loop-place
invariant-loop-place l = l.txs.items ≡ l.fn.coinbase ∷ take l.place (txs_of l.pool.list)
