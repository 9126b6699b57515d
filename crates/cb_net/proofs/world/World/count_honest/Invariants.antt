use Rattle.std.proofs.Common.{◌≡◌, take}
use Rattle.std.specs.Prelude.{count_by}
use Rattle.cb_net_node.specs.Nodes.{is_honest}
use Rattle.cb_net.proofs.world.World.count_honest.Given as goal

-- those so far
abbrev pub invariant-loop-node : goal.invariant-loop-node
invariant-loop-node l = l.count ≡ count_by is_honest (take l.node-index l.self.nodes.items)
