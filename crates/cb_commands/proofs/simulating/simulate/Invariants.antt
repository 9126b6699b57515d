use Rattle.std.specs.Io.KnownBytes.{prepend_known}
use Rattle.cb_control.proofs.Counting.{IsNext}
use Rattle.cb_commands.proofs.SimLines.{SimGoingKnown}
use Rattle.cb_commands.proofs.simulating.simulate.Given as goal

-- the lines so far led the run to where it stands, and what they print was written; the next line has the number of the counter
abbrev pub invariant-loop : goal.invariant-loop
invariant-loop g l = record {
  going : SimGoingKnown (g.R.Source.remaining l.fn.reader) (g.W.Sink.contents l.fn.writer) (prepend_known l.lines.ahead (g.R.Source.remaining l.reader)) (g.W.Sink.contents l.writer) l.simulation;
  next : IsNext l.counter (g.R.Source.remaining l.fn.reader) (prepend_known l.lines.ahead (g.R.Source.remaining l.reader));
}
