use Rattle.cb_chain.proofs.LawLemmas.{left_by}
use Rattle.cb_chain.proofs.laws.ledger_is_folded.Goals as goal

pub returns : goal.returns
returns c = λ unspent e. left_by c.args.chain.now unspent c.has_history.ensures e
