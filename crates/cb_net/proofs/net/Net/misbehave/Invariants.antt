use Rattle.std.proofs.Common.{◌≡◌}
use Rattle.cb_net.specs.Moments.{Ages, Relays}
use Rattle.cb_net.proofs.net.Net.misbehave.Given as goal

abbrev pub invariant-loop-place : goal.invariant-loop-place
invariant-loop-place l = record {
  relays : Relays l.fn.self.world l.self.world;
  total : l.self.total ≡ l.fn.self.total;
  ages : Ages l.fn.self l.self;
}
