use Rattle.cb_peer_state.proofs.Lights.{ping_sent}
use Rattle.cb_peer.proofs.receiving.receive.Goals as goal

pub returns-in_err-pong-clause-silent : goal.returns-in_err-pong-clause-silent
returns-in_err-pong-clause-silent c = λ weighs light. ping_sent c.args.session.now c.args.message.now c.in-Ping.nonce c.in-Ping.is light
