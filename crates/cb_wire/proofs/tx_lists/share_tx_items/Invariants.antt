use Rattle.std.proofs.Common.{◌≡◌, take}
use Rattle.cb_wire.proofs.tx_lists.share_tx_items.Given as goal

abbrev pub invariant-loop-item : goal.invariant-loop-item
invariant-loop-item g l = l.copies.items ≡ take l.item-index l.items
