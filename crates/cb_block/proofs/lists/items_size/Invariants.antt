use Rattle.std.proofs.Common.{◌≡◌, ◌-◌, ◌^◌, ◌++◌, length, min, take, All}
use Rattle.std.specs.List.{flat_map}
use Rattle.cb_base.specs.CompactSize.{compact_text}
use Rattle.cb_block.proofs.lists.items_size.Given as goal

-- the bytes of the count and of the items so far
abbrev pub invariant-loop-item : goal.invariant-loop-item
invariant-loop-item g l =
    (l.size ≡ min (length (compact_text (length l.items) ++ flat_map g.T.Coded.text (take l.item-index l.items))) (2 ^ 64 - 1)) × All g.T.Coded.is_kept (take l.item-index l.items)
