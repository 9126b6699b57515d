use Rattle.cb_trace.proofs.Probed.{many_pings, pings_are}
use Rattle.cb_trace.proofs.laws.each_probe_is_a_ping.Goals as goal

pub returns-clause-nonces : goal.returns-clause-nonces
returns-clause-nonces c = λ settings entries. pings_are settings entries

pub returns-clause-many : goal.returns-clause-many
returns-clause-many c = λ settings entries. many_pings settings entries
