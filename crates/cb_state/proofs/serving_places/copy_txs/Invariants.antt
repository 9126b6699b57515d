use Rattle.std.proofs.Common.{◌≡◌, take}
use Rattle.cb_state.proofs.serving_places.copy_txs.Given as goal

abbrev pub invariant-loop-tx : goal.invariant-loop-tx
invariant-loop-tx l = l.list.items ≡ take l.tx-index l.txs
