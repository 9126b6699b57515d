use Rattle.cb_rpc_call.proofs.Adding.{adds_is, adds_then}
use Rattle.cb_rpc.proofs.spending.put_refused.Goals as goal

pub returns : goal.returns
returns c = adds_is (adds_then c.in_ok-put_switch.ensures c.in_ok-put_text.ensures) (cc)
