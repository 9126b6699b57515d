use Rattle.std.proofs.Common.{rules}
use Rattle.std.specs.Io.KnownBytes.{prepend_known}
use Rattle.std.specs.Prelude.{string_bytes}
use Rattle.cb_control.proofs.Counting.{next-first, next-more}
use Rattle.cb_commands.proofs.SimLines.{sim-start, sim-line, sim-end, sim-stop}
use Rattle.cb_commands.proofs.simulating.simulate.Goals as goal

pub loop-init : goal.loop-init
loop-init g c = record {
  going =
      sim-start (g.R.Source.remaining c.args.reader.now) (g.W.Sink.contents c.args.writer.now) c.in_ok-lines.lines.ahead c.new-simulation.result
      (search rules) c.new-simulation.ensures;
  next = next-first (g.R.Source.remaining c.args.reader.now) c.in_ok-lines.lines.ahead (search rules);
}

pub returns-then-not-branch-clause-report : goal.returns-then-not-branch-clause-report
returns-then-not-branch-clause-report g c =
    sim-end (g.R.Source.remaining c.args.reader.now) (g.W.Sink.contents c.args.writer.now)
    (prepend_known c.loop.lines.ahead (g.R.Source.remaining c.loop.reader)) (prepend_known c.advance.new.self.ahead (g.R.Source.remaining c.advance.new.source))
    (g.W.Sink.contents c.loop.writer) (g.W.Sink.contents c.report.new.writer)
    c.loop.simulation c.in_ok-advance.field-0 c.advance.new.self.line c.report.result
    c.loop.invariant.going c.in_ok-advance.ensures.next (search rules) c.report.ensures.text c.report.ensures.status

pub returns-then-eq-clause-report : goal.returns-then-eq-clause-report
returns-then-eq-clause-report g c =
    sim-stop (g.R.Source.remaining c.args.reader.now) (g.W.Sink.contents c.args.writer.now)
    (prepend_known c.loop.lines.ahead (g.R.Source.remaining c.loop.reader)) (prepend_known c.advance.new.self.ahead (g.R.Source.remaining c.advance.new.source))
    (g.W.Sink.contents c.loop.writer) (g.W.Sink.contents c.write_all.new.writer) (g.W.Sink.contents c.report-then-eq.new.writer)
    c.loop.simulation c.line-in-loop.new.self c.in_ok-advance.field-0 c.advance.new.self.line c.in_ok-flow.flow (string_bytes c.new-text.result) (string_bytes c.line-in-loop.new.out) c.report-then-eq.result
    c.loop.invariant.going c.in_ok-advance.ensures.next (search rules) (search rules) (search rules) (search rules) (search rules) c.report-then-eq.ensures.text c.report-then-eq.ensures.status

pub loop-preserved : goal.loop-preserved
loop-preserved g c = record {
  going =
      sim-line (g.R.Source.remaining c.args.reader.now) (g.W.Sink.contents c.args.writer.now)
      (prepend_known c.loop.lines.ahead (g.R.Source.remaining c.loop.reader)) (prepend_known c.advance.new.self.ahead (g.R.Source.remaining c.advance.new.source))
      (g.W.Sink.contents c.loop.writer) (g.W.Sink.contents c.write_all.new.writer)
      c.loop.simulation c.line-in-loop.new.self c.in_ok-advance.field-0 c.advance.new.self.line c.in_ok-flow.flow (string_bytes c.new-text.result) (string_bytes c.line-in-loop.new.out)
      c.loop.invariant.going c.in_ok-advance.ensures.next (search rules) (search rules) (search rules) (search rules);
  next =
      next-more c.loop.counter (g.R.Source.remaining c.args.reader.now)
      (prepend_known c.loop.lines.ahead (g.R.Source.remaining c.loop.reader)) (prepend_known c.advance.new.self.ahead (g.R.Source.remaining c.advance.new.source))
      c.in_ok-advance.field-0 c.advance.new.self.line c.loop.invariant.next c.in_ok-advance.ensures.next (search rules);
}
