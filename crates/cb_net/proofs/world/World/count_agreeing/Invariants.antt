use Rattle.std.proofs.Common.{◌≡◌, take}
use Rattle.std.specs.Prelude.{count_by}
use Rattle.cb_net.specs.Ending.{agrees}
use Rattle.cb_net.proofs.world.World.count_agreeing.Given as goal

-- those so far
abbrev pub invariant-loop-node : goal.invariant-loop-node
invariant-loop-node l = l.count ≡ count_by (agrees l.tip) (take l.node-index l.self.nodes.items)
