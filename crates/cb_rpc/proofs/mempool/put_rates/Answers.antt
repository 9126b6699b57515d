use Rattle.cb_rpc_call.proofs.Adding.{adds_then}
use Rattle.cb_rpc.specs.Mempools.{rate_fields}
use Rattle.cb_rpc.proofs.mempool.put_rates.Goals as goal

pub returns : goal.returns
unfolding rate_fields
returns c = adds_then c.in_ok-put_amount.ensures (adds_then c.in_ok-put_amount-2.ensures c.put_amount-3.ensures)
