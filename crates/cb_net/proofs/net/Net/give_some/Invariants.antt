use Rattle.std.proofs.Common.{◌≡◌}
use Rattle.cb_net.specs.Moments.{Ages}
use Rattle.cb_net.proofs.net.Net.give_some.Given as goal

abbrev pub invariant-loop-place : goal.invariant-loop-place
invariant-loop-place l = record {
  ages : Ages l.fn.self l.self;
  total : l.self.total ≡ l.fn.self.total;
}
