use Rattle.cb_peer_state.proofs.CompactHonest.{honest_leads}
use Rattle.cb_peer_state.proofs.compact_laws.an_honest_block_is_rebuilt.Goals as goal

pub returns : goal.returns
returns c = honest_leads c.an_honest_message_is_rebuilt.ensures.rebuilt c.an_honest_message_is_rebuilt.ensures.places c.what_lacks_is_asked_for.ensures.under
