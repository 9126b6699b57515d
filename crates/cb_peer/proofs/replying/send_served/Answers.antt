use Rattle.std.proofs.Common.{◌≢◌, [], rules}
use Rattle.cb_peer.proofs.Lights.{nothing_served}
use Rattle.cb_peer.proofs.replying.send_served.Goals as goal

pub returns-in_err-messages-clause-silent : goal.returns-in_err-messages-clause-silent
returns-in_err-messages-clause-silent c = λ light.
    let there : c.args.pieces.now ≢ [] = search rules in
    absurd (there (nothing_served c.args.session.now c.args.pieces.now light))
