use Rattle.std.proofs.Common.{◌≡◌, length}
use Rattle.cb_node.specs.Slot.{AreAlike}
use Rattle.cb_node.proofs.serving.Service.find.Given as goal

abbrev pub invariant-loop-number : goal.invariant-loop-number
invariant-loop-number g l = AreAlike l.fn.slots.items l.slots.items × (length l.slots.items ≡ length l.fn.slots.items)
