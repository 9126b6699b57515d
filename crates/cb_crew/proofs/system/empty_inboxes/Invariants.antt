use Rattle.std.proofs.Common.{◌≡◌, replicate}
use Rattle.cb_crew.specs.Line.{empty_line}
use Rattle.cb_crew.proofs.system.empty_inboxes.Given as goal

abbrev pub invariant-loop-peer : goal.invariant-loop-peer
invariant-loop-peer l = l.inboxes.items ≡ replicate l._peer empty_line
