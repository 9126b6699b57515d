use Rattle.std.proofs.Common.{◌≡◌, ◌++◌, drop}
use Rattle.cb_compact.specs.Slots.{missing}
use Rattle.cb_compact.proofs.placing.missing_of.Given as goal

abbrev pub invariant-loop-place : goal.invariant-loop-place
invariant-loop-place l = l.places.items ++ missing l.place (drop l.place l.list) ≡ missing 0 l.list
