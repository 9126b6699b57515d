use Rattle.cb_rpc_call.proofs.Amounts.{amount_is}
use Rattle.cb_rpc_call.proofs.amount.amounts_are_exact.Goals as goal

pub returns : goal.returns
returns c = λ z fits. amount_is z fits.sfits
