use Rattle.cb_trace.proofs.LawLemmas.{settings_same}
use Rattle.cb_trace.proofs.laws.settings_stay.Goals as goal

pub returns : goal.returns
returns c = λ settings entries. settings_same settings entries
