use Rattle.std.proofs.Common.{◌∙◌, ap, sym, refl}
use Rattle.std.specs.FinMap.{get}
use Rattle.cb_ledger.specs.Undo.{changed}
use Rattle.cb_ledger.proofs.Changes.{over, changed_empty, value_is}
use Rattle.cb_ledger.proofs.overlay.Overlay.change.Goals as goal

pub returns-then-is_empty : goal.returns-then-is_empty
returns-then-is_empty c = λ u.
    ap (λ d. get (changed u d) c.args.point.now) (sym c.self.view_is) ∙ ap (λ m. get m c.args.point.now) (changed_empty u c.self.inside.touched.entries (c.if-is_empty.ensures.0 refl))

pub returns : goal.returns
returns c = λ u.
    ap (λ d. get (changed u d) c.args.point.now) (sym c.self.view_is)
    ∙ value_is u c.self.inside.touched.entries c.args.point.now
    ∙ ap (λ o. over o (get u c.args.point.now)) (sym (c.copied.ensures ∙ c.get.ensures.value))
