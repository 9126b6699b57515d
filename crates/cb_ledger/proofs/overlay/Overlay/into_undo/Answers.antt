use Rattle.std.proofs.Common.{◌≡◌, subst, sym, ◌∙◌, arith}
use Rattle.std.proofs.lemmas.Grind.{common_steps}
use Rattle.std.proofs.lemmas.Bool.{false≢true}
use Rattle.cb_ledger.specs.Undo.{StandOnce}
use Rattle.cb_ledger.proofs.Changes.{once_from_distinct}
use Rattle.cb_ledger.proofs.FirstTouch.{no_entries}
use Rattle.cb_ledger.proofs.overlay.Overlay.into_undo.Goals as goal

pub invariant_of-result : goal.invariant_of-result
invariant_of-result c =
    let same : c.loop-point.changes.items ≡ c.args.self = grind (arith, common_steps) in
    subst StandOnce (c.self.view_is ∙ sym same) (once_from_distinct c.self.inside.touched.entries c.len.ensures.unique)

pub returns-in_err-changes-clause-none : goal.returns-in_err-changes-clause-none
returns-in_err-changes-clause-none c = λ none.
    absurd (false≢true (c.in_err-changes.ensures.succeeds (c.len.ensures.len ∙ no_entries c.self.inside.touched.entries (c.self.view_is ∙ none))))
