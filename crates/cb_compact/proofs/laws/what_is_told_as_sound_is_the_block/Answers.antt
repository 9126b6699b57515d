use Rattle.cb_compact.proofs.OnlyTold.{told_is_one}
use Rattle.cb_compact.proofs.laws.what_is_told_as_sound_is_the_block.Goals as goal

pub returns : goal.returns
returns c = told_is_one
