use Rattle.std.proofs.Common.{◌<◌, length}
use Rattle.cb_chain.specs.Keeping.{IsTree}
use Rattle.cb_chain.proofs.Forks.{Forking}
use Rattle.cb_chain.proofs.branch.fork_of.Given as goal

abbrev pub invariant-loop-place : goal.invariant-loop-place
invariant-loop-place l = (l.place < length l.tree.block_indexes) × (IsTree l.tree.block_indexes → Forking l.tree.block_indexes l.from l.place)

abbrev pub decreases-loop-place : goal.decreases-loop-place
decreases-loop-place l = l.place
