use Rattle.cb_peer_state.proofs.Remembered.{wanted_by}
use Rattle.cb_peer_state.proofs.resuming_laws.nothing_joins_the_wanted_meanwhile.Goals as goal

pub returns : goal.returns
returns c = wanted_by
