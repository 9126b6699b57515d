use Rattle.std.proofs.Common.{arith}
use Rattle.std.proofs.lemmas.Grind.{common_steps}
use Rattle.cb_peer_state.proofs.fetch.block_entries.Goals as goal

pub loop-hash-preserved : goal.loop-hash-preserved
loop-hash-preserved c = grind (arith, common_steps)

pub returns-in_err-push-clause-unpaid : goal.returns-in_err-push-clause-unpaid
returns-in_err-push-clause-unpaid c = λ none. absurd (omega (arith, none, c.loop-hash-test.true))
