use Rattle.cb_rpc_call.proofs.Adding.{adds_behind, adds_one, adds_then}
use Rattle.cb_rpc.specs.Networks.{services_fields}
use Rattle.cb_rpc.proofs.network.put_services.Goals as goal

pub returns : goal.returns
unfolding services_fields
returns c = adds_then c.in_ok-put_text.ensures (adds_behind c.in_ok-key.ensures (adds_behind c.in_ok-begin_array.ensures (adds_behind c.in_ok-string.ensures (adds_one c.end_array.ensures))))
