use Rattle.cb_state.proofs.FirstBlock.{first_meets_rules}
use Rattle.cb_state.proofs.laws.first_block_meets_rules.Goals as goal

pub returns : goal.returns
returns c = first_meets_rules
