use Rattle.std.proofs.Common.{◌++◌, ap}
use Rattle.std.specs.Prelude.{codes}
use Rattle.cb_rpc_call.specs.Fields.{signed_field, switch_field, text_field}
use Rattle.cb_rpc_call.proofs.Adding.{adds_is, adds_then}
use Rattle.cb_rpc.specs.Peers.{height_of, way_fields}
use Rattle.cb_rpc.proofs.peer.put_way.Goals as goal

pub returns : goal.returns
unfolding way_fields
returns c =
    let peer = c.args.peer.now in
    adds_is (adds_then c.in_ok-put_switch.ensures (adds_then c.in_ok-put_height.ensures c.in_ok-put_text.ensures))
    (ap (λ name. switch_field (codes "inbound") peer.inbound ++ (signed_field (codes "startingheight") (height_of peer.greeting) ++ text_field (codes "connection_type") name)) c.way_name.ensures)
