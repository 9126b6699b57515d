use Rattle.cb_peer_state.proofs.Nonces.{served_nonces}
use Rattle.cb_peer_state.proofs.talk_laws.each_form_has_its_own_nonce.Goals as goal

pub returns : goal.returns
returns c = served_nonces
