use Rattle.cb_peer_state.proofs.LawLemmas.{no_headers_unasked}
use Rattle.cb_peer_state.proofs.laws.headers_are_sent_where_asked_for.Goals as goal

pub returns : goal.returns
returns c = no_headers_unasked
