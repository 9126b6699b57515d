use Rattle.std.proofs.Common.{◌≡◌, ◌++◌, map, Some}
use Rattle.std.specs.Vec.Iter.{into_iter_items}
use Rattle.cb_net_node.proofs.node.waiting.Given as goal

abbrev pub invariant-loop-badge : goal.invariant-loop-badge
invariant-loop-badge l = l.list.items ++ map (λ badge. Some badge) (into_iter_items l.badge-iterator) ≡ map (λ badge. Some badge) l.fn.badges.items
