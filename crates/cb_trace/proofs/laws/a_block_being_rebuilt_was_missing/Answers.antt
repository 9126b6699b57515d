use Rattle.cb_trace.proofs.Missing.{rebuilt_missing}
use Rattle.cb_trace.proofs.laws.a_block_being_rebuilt_was_missing.Goals as goal

pub returns : goal.returns
returns c = λ settings entries partial is. rebuilt_missing settings entries partial is
