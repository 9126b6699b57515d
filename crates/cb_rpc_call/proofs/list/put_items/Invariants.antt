use Rattle.std.proofs.Common.{◌≡◌, ◌++◌, take}
use Rattle.std.specs.List.{flat_map}
use Rattle.cb_rpc_call.proofs.list.put_items.Given as goal

-- the items so far
abbrev pub invariant-loop-item : goal.invariant-loop-item
invariant-loop-item g l =
    (l.writer.tokens ≡ l.fn.writer.tokens ++ flat_map g.T.ListItem.item_tokens (take l.item-index l.items))
    × (l.writer.before ≡ l.fn.writer.before)
