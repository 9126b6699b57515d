use Rattle.cb_peer_state.proofs.Needed.{are_different, flight_is, wanted_is, was_needed}
use Rattle.cb_peer_state.proofs.fetch_laws.what_is_needed_is_fetched.Goals as goal

pub returns-clause-flight : goal.returns-clause-flight
returns-clause-flight c = flight_is

pub returns-clause-wanted : goal.returns-clause-wanted
returns-clause-wanted c = wanted_is

pub returns-clause-among : goal.returns-clause-among
returns-clause-among c = was_needed

pub returns-clause-different : goal.returns-clause-different
returns-clause-different c = are_different
