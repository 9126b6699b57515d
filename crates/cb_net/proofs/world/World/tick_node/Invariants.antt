use Rattle.cb_net.specs.Moments.{Relays}
use Rattle.cb_net.proofs.world.World.tick_node.Given as goal

abbrev pub invariant-loop-turn : goal.invariant-loop-turn
invariant-loop-turn l = Relays l.fn.self l.self
