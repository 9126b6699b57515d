use Rattle.cb_rpc_call.proofs.Adding.{adds_behind, adds_one, adds_then}
use Rattle.cb_rpc.proofs.mempool.put_mempool.Goals as goal

pub returns : goal.returns
returns c = adds_behind c.in_ok-begin_object.ensures (adds_then (adds_then c.in_ok-put_use.ensures (adds_then c.in_ok-put_rates.ensures (adds_then c.in_ok-put_number.ensures c.in_ok-put_switch.ensures))) (adds_one c.end_object.ensures))
