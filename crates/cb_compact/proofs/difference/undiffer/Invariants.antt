use Rattle.std.proofs.Common.{◌≡◌, ◌<◌, ◌++◌, drop, All}
use Rattle.cb_compact.specs.Differences.{sums}
use Rattle.cb_compact.proofs.difference.undiffer.Given as goal

abbrev pub invariant-loop-difference : goal.invariant-loop-difference
invariant-loop-difference l = (l.indexes.items ++ sums l.least (drop l.difference-index l.differences) ≡ sums 0 l.differences) × All (λ index. index < l.total) (sums l.least (drop l.difference-index l.differences))
