use Rattle.std.proofs.Common.{◌≡◌, map, take}
use Rattle.cb_net_node.specs.Waves.{spending}
use Rattle.cb_net_node.proofs.wallet.spending_all.Given as goal

abbrev pub invariant-loop-point : goal.invariant-loop-point
invariant-loop-point l = l.txs.items ≡ map (λ point. spending point 1 l.form.value l.form.room) (take l.point-index l.points)
