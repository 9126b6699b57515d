use Rattle.cb_ledger.proofs.Txs.{spend-append}
use Rattle.cb_ledger.proofs.laws.one_after_the_other.Goals as goal

pub returns : goal.returns
returns c = spend-append
