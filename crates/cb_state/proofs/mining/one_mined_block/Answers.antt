use Rattle.cb_state.proofs.MinedLaws.{one_mined}
use Rattle.cb_state.proofs.mining.one_mined_block.Goals as goal

pub returns : goal.returns
returns c = one_mined
