use Rattle.std.proofs.Common.{◌≡◌, ◌++◌, drop}
use Rattle.cb_net_node.specs.Arrivals.{times_of}
use Rattle.cb_net_node.proofs.results.unsorted_times.Given as goal

-- the times so far, and those of the nodes that are left, are all
abbrev pub invariant-loop-node : goal.invariant-loop-node
invariant-loop-node l = l.times.items ++ times_of l.mined (drop l.node-index l.nodes) ≡ times_of l.mined l.nodes
