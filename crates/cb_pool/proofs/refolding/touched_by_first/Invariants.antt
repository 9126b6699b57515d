use Rattle.std.proofs.Common.{◌≡◌, ◌+◌, drop}
use Rattle.cb_pool.specs.Leaving.{touched_by_all}
use Rattle.cb_pool.proofs.refolding.touched_by_first.Given as goal

abbrev pub invariant-loop-candidate : goal.invariant-loop-candidate
invariant-loop-candidate l = l.sum + touched_by_all (drop l.candidate-index l.first) ≡ touched_by_all l.first
