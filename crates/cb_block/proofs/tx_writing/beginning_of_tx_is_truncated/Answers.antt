use Rattle.cb_block.proofs.CutTxs.{beginning_is_truncated}
use Rattle.cb_block.proofs.tx_writing.beginning_of_tx_is_truncated.Goals as goal

pub returns : goal.returns
returns c = beginning_is_truncated
