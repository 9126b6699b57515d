use Rattle.std.proofs.Common.{◌≡◌, ◌+◌, ◌^◌, ◌++◌, drop}
use Rattle.cb_compact.specs.Differences.{Rise, differences}
use Rattle.cb_compact.proofs.difference.differ.Given as goal

abbrev pub invariant-loop-index : goal.invariant-loop-index
invariant-loop-index l = (l.list.items ++ differences (l.before + 1) (drop l.index-index l.others) ≡ differences 0 l.fn.indexes) × Rise (l.before + 1) (2 ^ 64) (drop l.index-index l.others)
