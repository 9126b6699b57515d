use Rattle.std.proofs.Common.{◌≤◌}
use Rattle.cb_state.proofs.headers.median_time.Given as goal

abbrev pub invariant-loop-place : goal.invariant-loop-place
invariant-loop-place l = l.count ≤ 11
