use Rattle.cb_rpc_call.proofs.Adding.{adds_then}
use Rattle.cb_rpc.specs.Mempools.{flag_fields}
use Rattle.cb_rpc.proofs.mempool.put_flags.Goals as goal

pub returns : goal.returns
unfolding flag_fields
returns c = adds_then c.in_ok-put_switch.ensures c.put_switch-2.ensures
