use Rattle.cb_rpc_call.proofs.Adding.{adds_is, adds_then}
use Rattle.cb_rpc.specs.Networks.{count_fields}
use Rattle.cb_rpc.proofs.network.put_counts.Goals as goal

pub returns : goal.returns
unfolding count_fields
returns c = adds_is (adds_then c.in_ok-put_number.ensures (adds_then c.in_ok-put_number-2.ensures c.in_ok-put_number-3.ensures)) (cc)
