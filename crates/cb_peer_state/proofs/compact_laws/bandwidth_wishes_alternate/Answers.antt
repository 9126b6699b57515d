use Rattle.cb_peer_state.proofs.CompactLaws.{wishes_of}
use Rattle.cb_peer_state.proofs.compact_laws.bandwidth_wishes_alternate.Goals as goal

pub returns : goal.returns
returns c = wishes_of
