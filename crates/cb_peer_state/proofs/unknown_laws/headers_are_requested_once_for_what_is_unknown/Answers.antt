use Rattle.cb_peer_state.proofs.Seeking.{asked_once}
use Rattle.cb_peer_state.proofs.unknown_laws.headers_are_requested_once_for_what_is_unknown.Goals as goal

pub returns : goal.returns
returns c = asked_once
