use Rattle.std.proofs.Common.{◌≡◌, ◌++◌, drop}
use Rattle.cb_ledger.specs.Undo.{values_of}
use Rattle.cb_ledger.proofs.base.Base.values.Given as goal

abbrev pub invariant-loop-change : goal.invariant-loop-change
invariant-loop-change l = l.values.items ++ values_of l.self (drop l.change-index l.all) ≡ values_of l.self l.all
