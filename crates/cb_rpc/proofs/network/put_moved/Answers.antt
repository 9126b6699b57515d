use Rattle.cb_rpc_call.proofs.Adding.{adds_then}
use Rattle.cb_rpc.specs.Networks.{moved_fields}
use Rattle.cb_rpc.proofs.network.put_moved.Goals as goal

pub returns : goal.returns
unfolding moved_fields
returns c = adds_then c.in_ok-put_number.ensures (adds_then c.in_ok-put_number-2.ensures c.put_clock.ensures)
