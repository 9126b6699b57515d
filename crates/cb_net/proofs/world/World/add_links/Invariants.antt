use Rattle.cb_net.specs.Moments.{Relays}
use Rattle.cb_net.proofs.world.World.add_links.Given as goal

abbrev pub invariant-loop-link : goal.invariant-loop-link
invariant-loop-link l = Relays l.fn.self l.self
