use Rattle.cb_ledger.proofs.Txs.{is_coinbase-true, true-is_coinbase}
use Rattle.cb_ledger.proofs.laws.coinbases.Goals as goal

pub returns : goal.returns
returns c = λ tx. (is_coinbase-true tx.inputs, true-is_coinbase tx.inputs)
