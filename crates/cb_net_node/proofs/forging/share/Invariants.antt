use Rattle.std.proofs.Common.{◌≡◌, ◌++◌, take}
use Rattle.cb_net_node.proofs.forging.share.Given as goal

abbrev pub invariant-loop-tx : goal.invariant-loop-tx
invariant-loop-tx l = l.list.items ≡ l.fn.list.items ++ take l.tx-index l.txs
