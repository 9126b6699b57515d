use Rattle.cb_peer_state.proofs.CompactLaws.{fate_of}
use Rattle.cb_peer_state.proofs.compact_laws.one_block_is_rebuilt_at_a_time.Goals as goal

pub returns : goal.returns
returns c = fate_of
