use Rattle.std.proofs.Common.{length, arith}
use Rattle.cb_wire.proofs.Counting.{compact_most}
use Rattle.cb_wire.proofs.SixBytes.{ids_long}
use Rattle.cb_relay.proofs.spans.ids_size.Goals as goal

pub overflow_add-result : goal.overflow_add-result
overflow_add-result c = omega (arith, compact_most (length c.args.ids.now), c.requires)

pub returns : goal.returns
returns c = omega (arith, ids_long c.args.ids.now, compact_most (length c.args.ids.now), c.requires)
