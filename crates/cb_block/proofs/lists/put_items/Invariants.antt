use Rattle.std.proofs.Common.{◌≡◌, ◌≤◌, ◌++◌, length, take, All, vec_capacity}
use Rattle.std.specs.List.{flat_map}
use Rattle.cb_base.specs.CompactSize.{compact_text}
use Rattle.cb_block.proofs.lists.put_items.Given as goal

-- the count and the items so far stand there
abbrev pub invariant-loop-item : goal.invariant-loop-item
invariant-loop-item g l =
    (l.out.items ≡ l.fn.out.items ++ (compact_text (length l.items) ++ flat_map g.T.Coded.text (take l.item-index l.items))) × All g.T.Coded.is_kept (take l.item-index l.items)
    × (vec_capacity l.fn.out ≤ vec_capacity l.out)
