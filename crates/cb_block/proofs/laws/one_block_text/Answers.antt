use Rattle.cb_block.proofs.Headers as headers
use Rattle.cb_block.proofs.laws.one_block_text.Goals as goal

pub returns : goal.returns
returns c = headers.one_block_text
