use Rattle.cb_block.proofs.TxLaws as laws
use Rattle.cb_block.proofs.tx_writing.one_text.Goals as goal

pub returns : goal.returns
returns c = laws.one_text
