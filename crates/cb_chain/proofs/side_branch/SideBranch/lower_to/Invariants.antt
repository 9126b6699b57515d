use Rattle.std.proofs.Common.{◌+◌}
use Rattle.std.specs.Prelude.{reverse}
use Rattle.cb_ledger.specs.Unspent.{Unspent}
use Rattle.cb_chain.specs.Keeping.{tree_of}
use Rattle.cb_chain.specs.SideBranches.{IsKeptPlace, IsSideBranch, LeadUp}
use Rattle.cb_chain.proofs.side_branch.SideBranch.lower_to.Given as goal

abbrev pub invariant-loop-place : goal.invariant-loop-place
invariant-loop-place l =
    ((unspent : Unspent) → IsSideBranch (tree_of l.tree.block_indexes) l.tree.undos unspent l.fn.self → IsSideBranch (tree_of l.tree.block_indexes) l.tree.undos unspent l.self)
    × IsKeptPlace l.tree.block_indexes l.place
    × LeadUp l.tree.block_indexes l.place (reverse l.down.items) l.target

abbrev pub decreases-loop-place : goal.decreases-loop-place
decreases-loop-place l = l.place + l.self.end
