use Rattle.std.proofs.Common.{take, All}
use Rattle.cb_compact.specs.Sizes.{SpendsByHash}
use Rattle.cb_compact.proofs.shortening.see_hashes.Given as goal

abbrev pub invariant-loop-tx : goal.invariant-loop-tx
invariant-loop-tx l = All SpendsByHash (take l.tx-index l.txs)
