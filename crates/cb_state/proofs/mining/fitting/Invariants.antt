use Rattle.std.proofs.Common.{◌≡◌, ◌+◌, ◌∷◌, take}
use Rattle.cb_pool.specs.Listing.{txs_of}
use Rattle.cb_state.specs.Mining.{FitInBlock}
use Rattle.cb_state.proofs.Fits.{bytes_of}
use Rattle.cb_state.proofs.mining.fitting.Given as goal

abbrev pub invariant-loop-count : goal.invariant-loop-count
invariant-loop-count l = record {
  size : l.size ≡ 80 + bytes_of (l.coinbase ∷ take l.count (txs_of l.pool.list));
  fit : FitInBlock (l.coinbase ∷ take l.count (txs_of l.pool.list));
}
