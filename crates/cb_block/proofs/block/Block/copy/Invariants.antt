use Rattle.std.proofs.Common.{◌≡◌, take}
use Rattle.cb_block.proofs.block.Block.copy.Given as goal

abbrev pub invariant-loop-tx : goal.invariant-loop-tx
invariant-loop-tx l = l.txs.items ≡ take l.tx-index l.tx-items
