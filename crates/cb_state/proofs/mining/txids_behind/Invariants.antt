use Rattle.std.proofs.Common.{◌≡◌, ◌∷◌, take}
use Rattle.cb_block.specs.Blocks.{texts}
use Rattle.cb_block.specs.Soundness.{names}
use Rattle.cb_pool.specs.Listing.{txs_of}
use Rattle.cb_state.proofs.mining.txids_behind.Given as goal

abbrev pub invariant-loop-place : goal.invariant-loop-place
invariant-loop-place l = l.txids.items ≡ names (texts (l.coinbase ∷ take l.place (txs_of l.pool.list)))
