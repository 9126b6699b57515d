use Rattle.cb_peer_state.proofs.Limits.{within}
use Rattle.cb_peer_state.proofs.fetch_laws.limits_hold.Goals as goal

pub returns : goal.returns
returns c = within
