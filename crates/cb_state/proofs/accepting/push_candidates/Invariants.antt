use Rattle.std.proofs.Common.{◌≡◌, ◌++◌, drop, take}
use Rattle.cb_state.proofs.accepting.push_candidates.Given as goal

abbrev pub invariant-loop-place : goal.invariant-loop-place
invariant-loop-place l = l.first.items ≡ l.fn.first.items ++ drop 1 (take l.place l.block.txs)
