use Rattle.cb_trace.proofs.LawLemmas.{answers_pings}
use Rattle.cb_trace.proofs.laws.each_ping_is_answered.Goals as goal

pub returns : goal.returns
returns c = λ settings entries ends. answers_pings settings entries ends
