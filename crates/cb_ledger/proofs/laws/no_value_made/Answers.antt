use Rattle.cb_ledger.proofs.Sums.{spend_total}
use Rattle.cb_ledger.proofs.laws.no_value_made.Goals as goal

pub returns : goal.returns
returns c = spend_total
