use Rattle.std.proofs.Common.{ap, ◌∙◌}
use Rattle.cb_ledger.specs.Undo.{changed, set_at}
use Rattle.cb_ledger.proofs.Changes.{changed_note}
use Rattle.cb_ledger.proofs.overlay.Overlay.note.Goals as goal

pub returns-clause-ok : goal.returns-clause-ok
returns-clause-ok c = λ u.
    changed_note c.self.inside.touched.entries c.insert.new.self.entries c.args.point c.args.value c.in_ok-insert.ensures.updates.0 u ∙ ap (λ d. set_at (changed u d) c.args.point c.args.value) c.self.view_is
