use Rattle.std.proofs.Common.{take, All}
use Rattle.cb_block.specs.TxRules.{MeetsRules}
use Rattle.cb_block.proofs.block_rules.check_txs.Given as goal

abbrev pub invariant-loop-tx : goal.invariant-loop-tx
invariant-loop-tx l = All MeetsRules (take l.tx-index l.txs)
