use Rattle.std.proofs.Common.{◌≡◌, replicate}
use Rattle.cb_net_node.specs.Waves.{paying}
use Rattle.cb_net_node.proofs.wallet.made_outputs.Given as goal

abbrev pub invariant-loop-made : goal.invariant-loop-made
invariant-loop-made l = l.outputs.items ≡ replicate l._made (paying l.form.value l.form.room)
