use Rattle.cb_peer_state.proofs.LawLemmas.{early_nothing, early_notes, early_ping}
use Rattle.cb_peer_state.proofs.laws.only_the_handshake_counts.Goals as goal

pub returns-clause-nothing : goal.returns-clause-nothing
returns-clause-nothing c = early_nothing

pub returns-clause-noted : goal.returns-clause-noted
returns-clause-noted c = early_notes

pub returns-clause-pinged : goal.returns-clause-pinged
returns-clause-pinged c = early_ping
