use Rattle.cb_peer_state.proofs.Remembered.{resumes_of}
use Rattle.cb_peer_state.proofs.resuming_laws.headers_are_requested_from_what_is_remembered.Goals as goal

pub returns : goal.returns
returns c = resumes_of
