use Rattle.cb_peer_state.proofs.Remembered.{none_remembered}
use Rattle.cb_peer_state.proofs.resuming_laws.headers_are_requested_as_soon_as_nothing_is_wanted.Goals as goal

pub returns : goal.returns
returns c = none_remembered
