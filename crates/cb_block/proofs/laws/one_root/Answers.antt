use Rattle.cb_block.proofs.Levels as levels
use Rattle.cb_block.proofs.laws.one_root.Goals as goal

pub returns : goal.returns
returns c = levels.one_root
