use Rattle.std.proofs.Common.{◌≡◌, ◌++◌, length, take}
use Rattle.std.specs.List.{flat_map}
use Rattle.cb_base.specs.CompactSize.{compact_text}
use Rattle.cb_wire.specs.ShortForms.{short_id_text}
use Rattle.cb_wire.proofs.short_ids.put_ids.Given as goal

-- the count and the ids so far stand there
abbrev pub invariant-loop-id : goal.invariant-loop-id
invariant-loop-id l = l.out.items ≡ l.fn.out.items ++ (compact_text (length l.ids) ++ flat_map short_id_text (take l.id-index l.ids))
