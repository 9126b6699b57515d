use Rattle.cb_peer_state.proofs.Last.{has_once, last_is}
use Rattle.cb_peer_state.proofs.Leaving.{keeps_flying, keeps_unlisted, loses_listed}
use Rattle.cb_peer_state.proofs.fetch_laws.what_is_listed_stands_last.Goals as goal

pub returns-clause-last : goal.returns-clause-last
returns-clause-last c = last_is

pub returns-clause-unlisted : goal.returns-clause-unlisted
returns-clause-unlisted c = keeps_unlisted

pub returns-clause-flying : goal.returns-clause-flying
returns-clause-flying c = keeps_flying

pub returns-clause-others : goal.returns-clause-others
returns-clause-others c = loses_listed

pub returns-clause-all : goal.returns-clause-all
returns-clause-all c = has_once
