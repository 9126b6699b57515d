use Rattle.std.proofs.Common.{◌≡◌, ◌++◌}
use Rattle.std.specs.Vec.Iter.{into_iter_items}
use Rattle.cb_net_node.proofs.transit.Transit.send.Given as goal

-- what is on its way, and what is left, is all
abbrev pub invariant-loop-message : goal.invariant-loop-message
invariant-loop-message l = l.self ++ into_iter_items l.message-iterator ≡ l.fn.self ++ l.fn.messages.items
