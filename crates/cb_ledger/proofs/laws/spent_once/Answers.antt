use Rattle.cb_ledger.proofs.Touching.{txs_keep, txs_take}
use Rattle.cb_ledger.proofs.laws.spent_once.Goals as goal

pub returns-clause-kept : goal.returns-clause-kept
returns-clause-kept c = λ before after txs point e not_spent not_made. txs_keep point before after txs e not_spent not_made

pub returns-clause-spent : goal.returns-clause-spent
returns-clause-spent c = λ before after txs point e spent not_made. txs_take point before after txs e spent not_made
