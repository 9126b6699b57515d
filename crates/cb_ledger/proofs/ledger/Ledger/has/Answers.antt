use Rattle.std.proofs.Common.{ap, sym, ◌∙◌, is_some}
use Rattle.std.specs.FinMap.{get}
use Rattle.cb_ledger.proofs.Outpoints.{get_is}
use Rattle.cb_ledger.proofs.ledger.Ledger.has.Goals as goal

pub returns : goal.returns
returns c =
    c.contains_key.ensures ∙ ap is_some (sym (get_is c.self.inside.outputs.entries c.args.point.now) ∙ ap (λ h. get h.unspent c.args.point.now) c.self.view_is)
