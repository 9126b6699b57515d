use Rattle.cb_peer_state.proofs.Limits.{flight_stays}
use Rattle.cb_peer_state.proofs.fetch_laws.none_is_asked_for_twice.Goals as goal

pub returns-clause-flight : goal.returns-clause-flight
returns-clause-flight c = flight_stays
