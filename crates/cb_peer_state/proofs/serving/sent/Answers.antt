use Rattle.std.proofs.Common.{arith}
use Rattle.cb_peer_state.proofs.serving.sent.Goals as goal

pub returns-in_err-made-clause-unpaid : goal.returns-in_err-made-clause-unpaid
returns-in_err-made-clause-unpaid c = λ none. absurd (omega (arith, none, c.loop-piece-test.true))

pub returns-in_err-push-clause-unpaid : goal.returns-in_err-push-clause-unpaid
returns-in_err-push-clause-unpaid c = λ none. absurd (omega (arith, none, c.loop-piece-test.true))
