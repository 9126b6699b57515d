use Rattle.std.proofs.Common.{◌∙◌, ap}
use Rattle.cb_ledger.specs.Undo.{changed}
use Rattle.cb_ledger.proofs.Changes.{changed_same}
use Rattle.cb_ledger.proofs.overlay.Overlay.take_back.Goals as goal

pub returns-clause-ok : goal.returns-clause-ok
returns-clause-ok c = λ u.
    c.put_over.ensures u
    ∙ ap (λ m. changed m c.as_slice-changes.result.now) (changed_same c.self.inside.touched.entries c.reserve.new.self.entries c.reserve.ensures.entries.2 u ∙ ap (changed u) c.self.view_is)
    ∙ ap (changed (changed u c.args.self.now)) (c.as_slice-changes.ensures.value ∙ c.undo.view_is)
