use Rattle.cb_rpc_call.proofs.Adding.{adds_behind, adds_one, adds_then}
use Rattle.cb_rpc.specs.Networks.{target_field}
use Rattle.cb_rpc.proofs.network.put_target.Goals as goal

pub returns : goal.returns
unfolding target_field
returns c = adds_behind c.in_ok-key.ensures (adds_behind c.in_ok-begin_object.ensures (adds_then (adds_then c.in_ok-put_no_target.ensures c.in_ok-put_cycle.ensures) (adds_one c.end_object.ensures)))
