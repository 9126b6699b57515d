use Rattle.std.proofs.Common.{subst}
use Rattle.cb_wire.specs.CompactBlocks.{CompactBlockTakesMemory}
use Rattle.cb_relay.proofs.Asking.{if_ok, some_compact}
use Rattle.cb_relay.proofs.whole.whole_compact.Goals as goal

pub returns-clause-some : goal.returns-clause-some
returns-clause-some c = if_ok _ c.whole.result (subst CompactBlockTakesMemory c.new-cursor.ensures (some_compact c.new-cursor.result c.in_ok-form.form c.read_compact_block.new.cursor c.in_ok-form.ensures.exact))
