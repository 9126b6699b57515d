use Rattle.std.proofs.Common.{◌≡◌, true}
use Rattle.cb_node_process.specs.Telling.{TellsOpening}
use Rattle.cb_node_process.proofs.running.serve.Given as goal

-- where it listens was printed first, and then answers
abbrev pub invariant-loop : goal.invariant-loop
invariant-loop g l = TellsOpening (l.well ≡ true) (g.W.Sink.contents l.fn.writer) (g.W.Sink.contents l.writer)
