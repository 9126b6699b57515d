use Rattle.cb_trace.proofs.Reached.{is_reached}
use Rattle.cb_trace.proofs.laws.each_session_is_reached.Goals as goal

pub returns : goal.returns
returns c = λ settings entries. is_reached settings entries
