use Rattle.std.proofs.Common.{◌<◌, ◌≤◌, drop, All, Any}
use Rattle.cb_compact.specs.Differences.{sums}
use Rattle.cb_compact.proofs.difference.check_sums.Given as goal

abbrev pub invariant-loop-difference : goal.invariant-loop-difference
invariant-loop-difference l =
    (All (λ index. index < l.total) (sums l.least (drop l.difference-index l.differences)) → All (λ index. index < l.total) (sums 0 l.differences))
    × (Any (λ index. l.total ≤ index) (sums l.least (drop l.difference-index l.differences)) → Any (λ index. l.total ≤ index) (sums 0 l.differences))
