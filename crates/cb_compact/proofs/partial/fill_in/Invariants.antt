use Rattle.std.proofs.Common.{◌≡◌, ◌+◌, ◌++◌, drop, length}
use Rattle.std.specs.Vec.Iter.{into_iter_items}
use Rattle.cb_block.specs.Blocks.{texts}
use Rattle.cb_block.specs.Soundness.{names}
use Rattle.cb_compact.specs.Slots.{filled, missing}
use Rattle.cb_compact.proofs.partial.fill_in.Given as goal

abbrev pub invariant-loop-slot : goal.invariant-loop-slot
invariant-loop-slot l =
    (l.listed.txs.items ++ filled (into_iter_items l.slot-iterator) (drop l.used l.given) ≡ filled l.fn.slots.items l.given)
    × (l.listed.txids.items ≡ names (texts l.listed.txs.items))
    × (length (missing 0 (into_iter_items l.slot-iterator)) + l.used ≡ length l.given)
