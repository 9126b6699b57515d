use Rattle.std.proofs.Common.{arith}
use Rattle.cb_relay.proofs.Asking.{form_room}
use Rattle.cb_relay.proofs.spans.cmpctblock_read.Goals as goal

pub parts_of-requires : goal.parts_of-requires
parts_of-requires c =
    let same = form_room c.args.payload.now c.in_ok-form.form (λ i. omega (arith, c.type_inv.payload i)) c.in_ok-form.ensures.exact in
    omega (arith, same)
