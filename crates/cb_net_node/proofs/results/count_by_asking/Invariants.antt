use Rattle.std.proofs.Common.{◌≡◌, take}
use Rattle.std.specs.Prelude.{count_by}
use Rattle.cb_net_node.specs.Arrivals.{had_by_asking}
use Rattle.cb_net_node.proofs.results.count_by_asking.Given as goal

-- those so far
abbrev pub invariant-loop-node : goal.invariant-loop-node
invariant-loop-node l = l.count ≡ count_by had_by_asking (take l.node-index l.nodes)
