use Rattle.cb_peer_state.proofs.Carried.{tx_carried}
use Rattle.cb_peer_state.proofs.serving.tx_message.Goals as goal

pub new-requires : goal.new-requires
new-requires c = tx_carried c.args.candidate.now c.tx.result.now c.in_ok-shared.shared c.tx.ensures.alone c.tx.ensures.same c.in_ok-shared.ensures
