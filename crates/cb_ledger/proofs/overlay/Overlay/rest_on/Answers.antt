use Rattle.std.proofs.Common.{◌∙◌, ap}
use Rattle.cb_ledger.specs.Undo.{changed}
use Rattle.cb_ledger.proofs.Changes.{changed_same}
use Rattle.cb_ledger.proofs.overlay.Overlay.rest_on.Goals as goal

pub returns-clause-ok : goal.returns-clause-ok
returns-clause-ok c = λ u.
    c.put_under.ensures u
    ∙ changed_same c.self.inside.touched.entries c.reserve.new.self.entries c.reserve.ensures.entries.2 (changed u c.as_slice-changes.result.now)
    ∙ ap (changed (changed u c.as_slice-changes.result.now)) c.self.view_is
    ∙ ap (λ l. changed (changed u l) c.args.self.now) (c.as_slice-changes.ensures.value ∙ c.undo.view_is)
