use Rattle.cb_block.proofs.CutTexts.{beginning_of_header}
use Rattle.cb_block.proofs.laws.beginning_of_header_is_truncated.Goals as goal

pub returns : goal.returns
returns c = beginning_of_header
