use Rattle.cb_chain.proofs.LawLemmas.{active_linked}
use Rattle.cb_chain.proofs.laws.active_is_linked.Goals as goal

pub returns : goal.returns
returns c = active_linked c.args.chain.now c.has_history.ensures
