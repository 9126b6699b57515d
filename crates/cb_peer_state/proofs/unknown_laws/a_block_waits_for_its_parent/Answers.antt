use Rattle.cb_peer_state.proofs.Seeking.{child_kept}
use Rattle.cb_peer_state.proofs.unknown_laws.a_block_waits_for_its_parent.Goals as goal

pub returns : goal.returns
returns c = child_kept
