use Rattle.std.proofs.Common.{length, arith}
use Rattle.cb_wire.proofs.Counting.{compact_most}
use Rattle.cb_relay.proofs.fields.shape_of.Goals as goal

pub overflow_add-result : goal.overflow_add-result
overflow_add-result c = omega (arith, compact_most (length c.args.told.now.agent.now))
