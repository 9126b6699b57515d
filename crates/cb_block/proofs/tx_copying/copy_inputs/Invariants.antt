use Rattle.std.proofs.Common.{◌≡◌, take}
use Rattle.cb_block.proofs.tx_copying.copy_inputs.Given as goal

abbrev pub invariant-loop-input : goal.invariant-loop-input
invariant-loop-input l = l.copies.items ≡ take l.input-index l.inputs
