use Rattle.cb_peer_state.proofs.LawLemmas.{served_is}
use Rattle.cb_peer_state.proofs.laws.what_the_hall_has_is_served.Goals as goal

pub returns : goal.returns
returns c = served_is
