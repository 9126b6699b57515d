use Rattle.cb_relay.proofs.Lying.{inputs_lie_there, outputs_lie_there, txs_lie_there}
use Rattle.cb_relay.proofs.laws.what_lies_there.Goals as goal

pub returns : goal.returns
returns c = record { inputs = inputs_lie_there; outputs = outputs_lie_there; txs = txs_lie_there }
