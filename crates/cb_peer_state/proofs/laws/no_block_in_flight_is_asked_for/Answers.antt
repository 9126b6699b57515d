use Rattle.cb_peer_state.proofs.Again.{asked_again}
use Rattle.cb_peer_state.proofs.LawLemmas.{not_asked_twice}
use Rattle.cb_peer_state.proofs.laws.no_block_in_flight_is_asked_for.Goals as goal

pub returns-clause-once : goal.returns-clause-once
returns-clause-once c = not_asked_twice

pub returns-clause-again : goal.returns-clause-again
returns-clause-again c = asked_again
