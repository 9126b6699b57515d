use Rattle.cb_net.specs.Moments.{Ages}
use Rattle.cb_net.proofs.net.Net.mend.Given as goal

abbrev pub invariant-loop-place : goal.invariant-loop-place
invariant-loop-place l = Ages l.fn.self l.self
