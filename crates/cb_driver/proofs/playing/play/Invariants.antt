use Rattle.std.proofs.Common.{◌≡◌, vec_len}
use Rattle.std.specs.Io.KnownBytes.{prepend_known}
use Rattle.cb_control.proofs.Counting.{IsNext}
use Rattle.cb_driver.proofs.Going.{GoingKnown}
use Rattle.cb_driver.proofs.playing.play.Given as goal

-- what the lines so far print was written; the next line has this number; there are as many nodes as at first
abbrev pub invariant-loop-number : goal.invariant-loop-number
invariant-loop-number g l = record {
  going : GoingKnown l.count (g.R.Source.remaining l.fn.reader) (g.W.Sink.contents l.fn.writer) (prepend_known l.lines.ahead (g.R.Source.remaining l.reader)) (g.W.Sink.contents l.writer) l.tally l.number;
  next : IsNext l.number (g.R.Source.remaining l.fn.reader) (prepend_known l.lines.ahead (g.R.Source.remaining l.reader));
  count : vec_len l.nodes.list ≡ vec_len l.fn.nodes.list;
}
