use Rattle.cb_peer_state.proofs.Remembered.{none_left_out}
use Rattle.cb_peer_state.proofs.resuming_laws.no_missing_block_is_left_out.Goals as goal

pub returns : goal.returns
returns c = none_left_out
