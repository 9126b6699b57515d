use Rattle.std.proofs.Common.{ap, sym, ◌∙◌}
use Rattle.std.specs.FinMap.{get}
use Rattle.cb_ledger.proofs.Outpoints.{get_is}
use Rattle.cb_ledger.proofs.ledger.Ledger.value.Goals as goal

pub returns : goal.returns
returns c =
    c.copied.ensures ∙ c.get.ensures.value ∙ sym (get_is c.self.inside.outputs.entries c.args.point.now) ∙ ap (λ h. get h.unspent c.args.point.now) c.self.view_is
