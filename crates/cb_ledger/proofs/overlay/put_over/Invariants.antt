use Rattle.std.proofs.Common.{◌≡◌, ◌≤◌, drop, length}
use Rattle.std.specs.HashMap.{spare}
use Rattle.cb_ledger.specs.Undo.{changed, changes_of}
use Rattle.cb_ledger.specs.Unspent.{Unspent}
use Rattle.cb_ledger.proofs.overlay.put_over.Given as goal

abbrev pub invariant-loop-left : goal.invariant-loop-left
invariant-loop-left l = record {
  within : l.left ≤ length l.changes;
  room : l.left ≤ spare l.touched;
  made : (u : Unspent) → changed u (changes_of l.touched.entries) ≡ changed (changed u (changes_of l.fn.touched.entries)) (drop l.left l.changes);
}

abbrev pub decreases-loop-left : goal.decreases-loop-left
decreases-loop-left l = l.left
