use Rattle.cb_state.proofs.OneAnswer.{one_heads, one_taken, one_tx}
use Rattle.cb_state.proofs.laws.one_answer.Goals as goal

pub returns-clause-tx : goal.returns-clause-tx
returns-clause-tx c = one_tx

pub returns-clause-block : goal.returns-clause-block
returns-clause-block c = one_taken

pub returns-clause-headers : goal.returns-clause-headers
returns-clause-headers c = one_heads
