use Rattle.std.proofs.Common.{◌≡◌, map, take}
use Rattle.cb_net_node.specs.Waves.{output_of}
use Rattle.cb_net_node.proofs.wallet.outputs_of_all.Given as goal

abbrev pub invariant-loop-tx : goal.invariant-loop-tx
invariant-loop-tx l = l.points.items ≡ map (λ tx. output_of tx 0) (take l.tx-index l.txs)
