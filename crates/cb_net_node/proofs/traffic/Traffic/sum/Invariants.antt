use Rattle.std.proofs.Common.{◌≡◌, take}
use Rattle.cb_net_node.specs.Traffics.{sum_of}
use Rattle.cb_net_node.proofs.traffic.Traffic.sum.Given as goal

abbrev pub invariant-loop-row : goal.invariant-loop-row
invariant-loop-row l = l.sum ≡ sum_of (take l.row-index l.self.rows)
