use Rattle.cb_trace.proofs.Counted.{each_nonce, nonce_once}
use Rattle.cb_trace.proofs.laws.no_nonce_is_used_twice.Goals as goal

pub returns-clause-each : goal.returns-clause-each
returns-clause-each c = λ settings entries. each_nonce settings entries

pub returns-clause-once : goal.returns-clause-once
returns-clause-once c = λ settings entries i j before within few. nonce_once settings entries i j before within few
