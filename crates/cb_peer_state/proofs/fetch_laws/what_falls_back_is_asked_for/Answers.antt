use Rattle.cb_peer_state.proofs.Falling.{asked, flies_still, wanted_still}
use Rattle.cb_peer_state.proofs.fetch_laws.what_falls_back_is_asked_for.Goals as goal

pub returns-clause-asked : goal.returns-clause-asked
returns-clause-asked c = asked

pub returns-clause-flight : goal.returns-clause-flight
returns-clause-flight c = flies_still

pub returns-clause-wanted : goal.returns-clause-wanted
returns-clause-wanted c = wanted_still
