use Rattle.std.specs.Io.KnownBytes.{prepend_known}
use Rattle.cb_control.proofs.Counting.{IsNext}
use Rattle.cb_commands.proofs.Reporting.{GoingKnown}
use Rattle.cb_commands.proofs.decoding.decode.Given as goal

-- the lines so far were hex, and what their stream prints was written; the next line has this number
abbrev pub invariant-loop-number : goal.invariant-loop-number
invariant-loop-number g l = record {
  going : GoingKnown (g.R.Source.remaining l.fn.reader) (g.W.Sink.contents l.fn.writer) (prepend_known l.lines.ahead (g.R.Source.remaining l.reader)) (g.W.Sink.contents l.writer) l.decoding l.number;
  next : IsNext l.number (g.R.Source.remaining l.fn.reader) (prepend_known l.lines.ahead (g.R.Source.remaining l.reader));
}
