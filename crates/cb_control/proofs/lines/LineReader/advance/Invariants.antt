use Rattle.std.specs.Prelude.{◌+◌, ◌-◌, ◌^◌, length}
use Rattle.std.specs.Io.KnownBytes.{prepend_known, Keeps}
use Rattle.std.proofs.Common.{◌++◌}
use Rattle.cb_control.specs.Lines.{HasNoFeed}
use Rattle.cb_control.proofs.lines.LineReader.advance.Given as goal

-- what there was to come is the line so far, what was read ahead, and what is to come now
abbrev pub invariant-loop-self : goal.invariant-loop-self
invariant-loop-self g l = record {
  feedless : HasNoFeed l.self.line;
  keeps : Keeps (prepend_known l.fn.self.ahead (g.R.Source.remaining l.fn.source)) (prepend_known (l.self.line ++ l.self.ahead) (g.R.Source.remaining l.source));
}

-- the room that a line has
abbrev pub decreases-loop-self : goal.decreases-loop-self
decreases-loop-self g l = 2 ^ 63 - (length l.self.line + length l.self.ahead)
