use Rattle.std.proofs.Common.{arith}
use Rattle.std.proofs.lemmas.Grind.{common_steps}
use Rattle.cb_peer_state.proofs.announcing.tx_entries.Goals as goal

pub loop-txid-preserved : goal.loop-txid-preserved
loop-txid-preserved c = grind (arith, common_steps)
