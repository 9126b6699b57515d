use Rattle.cb_peer_state.proofs.LawLemmas.{fewer_left}
use Rattle.cb_peer_state.proofs.laws.questions_run_out.Goals as goal

pub returns-clause-fewer : goal.returns-clause-fewer
returns-clause-fewer c = fewer_left
