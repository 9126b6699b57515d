use Rattle.cb_peer_state.proofs.Seeking.{first_counts, later_counts_not, no_txs_told}
use Rattle.cb_peer_state.proofs.unknown_laws.a_peer_that_said_no_is_told_no_transactions.Goals as goal

pub returns-clause-none : goal.returns-clause-none
returns-clause-none c = no_txs_told

pub returns-clause-first : goal.returns-clause-first
returns-clause-first c = first_counts

pub returns-clause-later : goal.returns-clause-later
returns-clause-later c = later_counts_not
