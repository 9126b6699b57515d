use Rattle.std.proofs.Common.{◌≡◌, ◌++◌}
use Rattle.std.specs.Vec.Iter.{into_iter_items}
use Rattle.cb_session.proofs.inbox_reader.share.Given as goal

-- what isn't waiting was shared
abbrev pub invariant-loop-item : goal.invariant-loop-item
invariant-loop-item l = l.shared.items ++ into_iter_items l.item-iterator ≡ l.fn.items.items
