use Rattle.cb_rpc_call.proofs.Adding.{adds_then}
use Rattle.cb_rpc.specs.Networks.{cycle_fields}
use Rattle.cb_rpc.proofs.network.put_cycle.Goals as goal

pub returns : goal.returns
unfolding cycle_fields
returns c = adds_then c.in_ok-put_switch.ensures (adds_then c.in_ok-put_number.ensures c.put_number-2.ensures)
