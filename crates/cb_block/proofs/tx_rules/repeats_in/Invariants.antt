use Rattle.std.proofs.Common.{take}
use Rattle.std.specs.HashSet.{contains}
use Rattle.cb_block.proofs.Repeats.{same, IsSeen}
use Rattle.cb_block.proofs.tx_rules.repeats_in.Given as goal

abbrev pub invariant-loop-input : goal.invariant-loop-input
invariant-loop-input l = IsSeen (contains same l.spent) (take l.input-index l.inputs)
