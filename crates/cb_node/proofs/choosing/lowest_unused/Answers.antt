use Rattle.cb_node.specs.Slot.{uses_of}
use Rattle.cb_node.proofs.Lowest.{is_lowest, none_more}
use Rattle.cb_node.proofs.choosing.lowest_unused.Goals as goal

pub returns-then-is_unused-clause-lowest : goal.returns-then-is_unused-clause-lowest
returns-then-is_unused-clause-lowest g c =
    is_lowest (uses_of c.args.slots.now) c.args.first c.args.end c.loop-number.number c.loop-number.auto.number c.loop-number-test.true c.loop-number.invariant (c.is_unused.ensures.0 c.if-is_unused.true)

pub loop-number-preserved : goal.loop-number-preserved
loop-number-preserved g c =
    none_more (uses_of c.args.slots.now) c.args.first c.loop-number.number c.is_unused.result c.loop-number.invariant c.is_unused.ensures c.if-is_unused.false
