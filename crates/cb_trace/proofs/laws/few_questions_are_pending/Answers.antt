use Rattle.cb_peer_state.proofs.Steps.{few_left}
use Rattle.cb_trace.specs.Fold.{session_of}
use Rattle.cb_trace.proofs.laws.few_questions_are_pending.Goals as goal

pub returns : goal.returns
returns c = λ settings entries. few_left (session_of settings entries).pending
