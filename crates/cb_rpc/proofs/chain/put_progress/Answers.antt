use Rattle.cb_rpc_call.proofs.Adding.{adds_is, adds_then}
use Rattle.cb_rpc.specs.Chains.{progress_fields}
use Rattle.cb_rpc.proofs.chain.put_progress.Goals as goal

pub returns : goal.returns
unfolding progress_fields
returns c = adds_is (adds_then c.in_ok-put_number.ensures (adds_then c.in_ok-put_number-2.ensures (adds_then c.in_ok-put_number-3.ensures c.in_ok-put_switch.ensures))) (cc)
