use Rattle.cb_compact.proofs.Sending.{honest_places, honest_rebuilt}
use Rattle.cb_compact.proofs.rebuilding_laws.an_honest_message_is_rebuilt.Goals as goal

pub returns-clause-rebuilt : goal.returns-clause-rebuilt
returns-clause-rebuilt c = honest_rebuilt

pub returns-clause-places : goal.returns-clause-places
returns-clause-places c = honest_places
