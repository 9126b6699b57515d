use Rattle.std.proofs.Common.{◌≡◌, ◌≤◌}
use Rattle.cb_net.specs.Moments.{Relays}
use Rattle.cb_net.proofs.net.Net.run.Given as goal

abbrev pub invariant-loop-self : goal.invariant-loop-self
invariant-loop-self l = record {
  relays : Relays l.fn.self.world l.self.world;
  left : l.self.left ≤ l.fn.self.left;
  others : l.self ≡ record l.fn.self { world = l.self.world; left = l.self.left };
}

abbrev pub decreases-loop-self : goal.decreases-loop-self
decreases-loop-self l = l.self.left
