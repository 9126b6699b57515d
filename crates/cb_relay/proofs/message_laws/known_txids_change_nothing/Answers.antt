use Rattle.cb_relay.proofs.Knowing.{known_same}
use Rattle.cb_relay.proofs.message_laws.known_txids_change_nothing.Goals as goal

pub returns : goal.returns
returns c = known_same
