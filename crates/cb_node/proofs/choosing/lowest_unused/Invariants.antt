use Rattle.std.proofs.Common.{false}
use Rattle.cb_node.specs.Choosing.{HasNone}
use Rattle.cb_node.specs.Slot.{uses_of}
use Rattle.cb_node.proofs.choosing.lowest_unused.Given as goal

abbrev pub invariant-loop-number : goal.invariant-loop-number
invariant-loop-number g l = HasNone (uses_of l.slots) false l.first l.number
