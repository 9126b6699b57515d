use Rattle.cb_peer_state.proofs.CompactLaws.{requests_of}
use Rattle.cb_peer_state.proofs.compact_laws.missing_transactions_are_requested.Goals as goal

pub returns : goal.returns
returns c = requests_of c.what_lacks_is_asked_for.ensures.under c.what_lacks_is_asked_for.ensures.exact
