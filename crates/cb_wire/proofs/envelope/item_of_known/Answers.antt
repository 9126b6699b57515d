use Rattle.std.proofs.Common.{arith}
use Rattle.cb_wire.proofs.Messages.{payload_at-limits}
use Rattle.cb_wire.proofs.envelope.item_of_known.Goals as goal

pub new-requires : goal.new-requires
new-requires c = payload_at-limits _ _ c.in-Ok.message (λ i. omega (arith, c.type_inv.payload i)) c.requires c.in-Ok.ensures.exact
