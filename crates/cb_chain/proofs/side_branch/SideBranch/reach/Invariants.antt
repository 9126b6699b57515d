use Rattle.cb_chain.proofs.Tries.{Reaches}
use Rattle.cb_chain.proofs.side_branch.SideBranch.reach.Given as goal

abbrev pub invariant-loop-left : goal.invariant-loop-left
invariant-loop-left l = Reaches l.fn.tree l.tree l.ledger.unspent l.self l.left l.down.items l.target

abbrev pub decreases-loop-left : goal.decreases-loop-left
decreases-loop-left l = l.left
