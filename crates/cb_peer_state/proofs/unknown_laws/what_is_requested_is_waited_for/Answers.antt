use Rattle.cb_peer_state.proofs.Seeking.{waited}
use Rattle.cb_peer_state.proofs.unknown_laws.what_is_requested_is_waited_for.Goals as goal

pub returns : goal.returns
returns c = waited
