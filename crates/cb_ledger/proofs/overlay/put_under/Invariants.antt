use Rattle.std.proofs.Common.{◌≡◌, ◌≤◌, ◌+◌, take, length}
use Rattle.std.specs.HashMap.{spare}
use Rattle.cb_ledger.specs.Undo.{changed, changes_of}
use Rattle.cb_ledger.specs.Unspent.{Unspent}
use Rattle.cb_ledger.proofs.overlay.put_under.Given as goal

abbrev pub invariant-loop-change : goal.invariant-loop-change
invariant-loop-change l = record {
  room : length l.changes ≤ spare l.touched + l.change-index;
  made : (u : Unspent) → changed u (changes_of l.touched.entries) ≡ changed (changed u (take l.change-index l.changes)) (changes_of l.fn.touched.entries);
}
