use Rattle.cb_peer_state.proofs.LawLemmas.{limits_of}
use Rattle.cb_peer_state.proofs.laws.few_blocks_are_fetched.Goals as goal

pub returns-clause-flight : goal.returns-clause-flight
returns-clause-flight c = λ s reached. (limits_of s reached).flight

pub returns-clause-wanted : goal.returns-clause-wanted
returns-clause-wanted c = λ s reached. (limits_of s reached).wanted

pub returns-clause-flight_once : goal.returns-clause-flight_once
returns-clause-flight_once c = λ s reached. (limits_of s reached).flight_once

pub returns-clause-wanted_once : goal.returns-clause-wanted_once
returns-clause-wanted_once c = λ s reached. (limits_of s reached).wanted_once
