use Rattle.std.proofs.Common.{◌<◌, length}
use Rattle.cb_chain.proofs.side_branch.is_near.Given as goal

abbrev pub invariant-loop : goal.invariant-loop
invariant-loop l = (l.low < length l.tree.block_indexes) × (l.high < length l.tree.block_indexes)
