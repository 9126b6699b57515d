use Rattle.cb_net.specs.Moments.{Relays}
use Rattle.cb_net.proofs.world.World.tick_all.Given as goal

abbrev pub invariant-loop-place : goal.invariant-loop-place
invariant-loop-place l = Relays l.fn.self l.self
