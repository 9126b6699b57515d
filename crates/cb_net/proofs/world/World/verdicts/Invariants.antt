use Rattle.std.proofs.Common.{take}
use Rattle.cb_net.specs.Audits.{AreVerdicts}
use Rattle.cb_net.proofs.world.World.verdicts.Given as goal

abbrev pub invariant-loop-node : goal.invariant-loop-node
invariant-loop-node l = AreVerdicts l.self.links.items (take l.node-index l.self.nodes.items) l.all.items
