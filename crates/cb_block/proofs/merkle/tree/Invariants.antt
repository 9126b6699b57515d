use Rattle.std.proofs.Common.{length}
use Rattle.cb_block.proofs.Climbing.{IsClimbing}
use Rattle.cb_block.proofs.merkle.tree.Given as goal

abbrev pub invariant-loop-level : goal.invariant-loop-level
invariant-loop-level l = IsClimbing l.fn.leaves.items l.level.items l.mutated

abbrev pub decreases-loop-level : goal.decreases-loop-level
decreases-loop-level l = length l.level.items
