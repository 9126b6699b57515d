use Rattle.std.proofs.Common.{ap, ◌∙◌}
use Rattle.cb_ledger.proofs.Outpoints.{entries_same}
use Rattle.cb_ledger.proofs.ledger.Ledger.reserve.Goals as goal

pub returns-clause-same : goal.returns-clause-same
returns-clause-same c =
    entries_same c.self.inside.outputs.entries c.reserve.new.self.entries c.reserve.ensures.entries.2 ∙ ap (λ h. h.unspent) c.self.view_is
