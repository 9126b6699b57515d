use Rattle.cb_trace.proofs.Counted.{wishes_alternate}
use Rattle.cb_trace.proofs.laws.bandwidth_wishes_alternate.Goals as goal

pub returns : goal.returns
returns c = λ settings entries. wishes_alternate settings entries
