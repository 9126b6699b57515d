use Rattle.std.proofs.Common.{◌<◌, length}
use Rattle.cb_chain.specs.Keeping.{IsTree}
use Rattle.cb_chain.proofs.Forks.{Climbing}
use Rattle.cb_chain.proofs.branch.branch_above.Given as goal

abbrev pub invariant-loop-branch : goal.invariant-loop-branch
invariant-loop-branch l = (l.place < length l.tree.block_indexes) × (IsTree l.tree.block_indexes → Climbing l.tree.block_indexes l.from l.fork l.place l.branch.items)

abbrev pub decreases-loop-branch : goal.decreases-loop-branch
decreases-loop-branch l = l.place
