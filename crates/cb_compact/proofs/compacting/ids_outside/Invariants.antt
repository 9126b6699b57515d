use Rattle.std.proofs.Common.{◌≡◌, ◌≤◌, ◌++◌, drop, length, map}
use Rattle.cb_compact.specs.Differences.{Rise}
use Rattle.cb_compact.specs.Forms.{left_out}
use Rattle.cb_compact.specs.ShortIds.{short_id_of}
use Rattle.cb_compact.proofs.compacting.ids_outside.Given as goal

abbrev pub invariant-loop-place : goal.invariant-loop-place
invariant-loop-place l = (l.ids.items ++ map (short_id_of l.key) (left_out l.place (drop l.passed l.places) (drop l.place l.txids)) ≡ map (short_id_of l.key) (left_out 0 l.places l.txids)) × Rise l.place (length l.txids) (drop l.passed l.places) × (l.passed ≤ length l.places)
