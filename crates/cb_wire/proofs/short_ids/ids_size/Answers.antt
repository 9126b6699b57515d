use Rattle.std.proofs.Common.{arith}
use Rattle.cb_wire.proofs.SixBytes.{ids_long}
use Rattle.cb_wire.proofs.short_ids.ids_size.Goals as goal

pub returns : goal.returns
returns c = omega (arith, ids_long c.args.ids.now, c.compact_size.ensures, c.saturating_mul.ensures, c.saturating_add.ensures)
