use Rattle.cb_rpc_call.proofs.Adding.{adds_then}
use Rattle.cb_rpc.specs.Networks.{target_fields}
use Rattle.cb_rpc.proofs.network.put_no_target.Goals as goal

pub returns : goal.returns
unfolding target_fields
returns c = adds_then c.in_ok-put_number.ensures (adds_then c.in_ok-put_number-2.ensures c.put_switch.ensures)
