use Rattle.std.proofs.Common.{◌≡◌, replicate}
use Rattle.cb_net_node.proofs.forging.copies.Given as goal

abbrev pub invariant-loop-made : goal.invariant-loop-made
invariant-loop-made l = l.list.items ≡ replicate l._made l.fn.tx
