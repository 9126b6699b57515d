use Rattle.cb_block.proofs.Only.{only_one}
use Rattle.cb_block.proofs.laws.one_sound_list.Goals as goal

pub returns : goal.returns
returns c = only_one
