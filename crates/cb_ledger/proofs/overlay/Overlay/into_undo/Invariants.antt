use Rattle.std.proofs.Common.{◌≡◌, ◌++◌}
use Rattle.cb_ledger.specs.Undo.{changes_of}
use Rattle.cb_ledger.proofs.overlay.Overlay.into_undo.Given as goal

abbrev pub invariant-loop-point : goal.invariant-loop-point
invariant-loop-point l = l.changes.items ++ changes_of l.point-iterator ≡ l.fn.self
