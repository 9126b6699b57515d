use Rattle.std.proofs.Common.{subst, sym}
use Rattle.cb_ledger.specs.Undo.{StandOnce}
use Rattle.cb_ledger.proofs.Changes.{once_values, values_end}
use Rattle.cb_ledger.proofs.base.Base.values.Goals as goal

pub invariant_of-result : goal.invariant_of-result
invariant_of-result c =
    let all = c.as_slice-all.result.now in
    subst StandOnce (sym (values_end c.args.self.now c.loop-change.values.items all c.loop-change.change-index c.loop-change-test.false c.loop-change.invariant))
    (once_values c.args.self.now all (subst StandOnce (sym c.as_slice-all.ensures.value) c.changes.invariant))
