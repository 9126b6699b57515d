use Rattle.std.proofs.Common.{◌≡◌, ◌+◌, ◌-◌, ◌≤◌, ◌++◌, drop, length, map}
use Rattle.std.specs.Vec.Iter.{into_iter_items}
use Rattle.cb_compact.specs.Differences.{Rise}
use Rattle.cb_compact.specs.Forms.{places_of}
use Rattle.cb_compact.specs.Slots.{laid_out}
use Rattle.cb_compact.specs.Tables.{found_tx}
use Rattle.cb_compact.proofs.placing.lay_out.Given as goal

abbrev pub invariant-loop-place : goal.invariant-loop-place
invariant-loop-place l =
    (l.list.items ++ laid_out l.place (drop l.passed l.prefilled) (map found_tx (into_iter_items l.others)) ≡ laid_out 0 l.prefilled (map found_tx l.fn.found.items))
    × Rise l.place (length l.fn.found.items + length l.prefilled) (places_of (drop l.passed l.prefilled))
    × (l.passed ≤ length l.prefilled) × (l.passed ≤ l.place) × (length (into_iter_items l.others) + (l.place - l.passed) ≡ length l.fn.found.items)
