use Rattle.cb_peer_state.proofs.CompactHeld.{held_only}
use Rattle.cb_peer_state.proofs.compact_laws.a_compact_block_is_not_held_against_its_peer.Goals as goal

pub returns : goal.returns
returns c = held_only
