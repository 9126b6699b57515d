use Rattle.std.proofs.Common.{rules, List, ℕ, subst, ◌∙◌}
use Rattle.cb_control.specs.ScriptLine.{ReadsScript}
use Rattle.std.specs.Io.KnownBytes.{prepend_known}
use Rattle.cb_control.proofs.Counting.{next-more}
use Rattle.cb_driver.proofs.Going.{going-on, going-stop}
use Rattle.cb_driver.proofs.playing.play.Goals as goal

pub returns-in-None-clause-plays : goal.returns-in-None-clause-plays
returns-in-None-clause-plays g c =
    going-stop c.args.count (g.R.Source.remaining c.args.reader.now) (g.W.Sink.contents c.args.writer.now)
    (prepend_known c.loop-number.lines.ahead (g.R.Source.remaining c.loop-number.reader)) (prepend_known c.advance.new.self.ahead (g.R.Source.remaining c.advance.new.source))
    (g.W.Sink.contents c.loop-number.writer) (g.W.Sink.contents c.write_outcome-in-None.new.writer)
    c.loop-number.tally c.loop-number.number c.in_ok-advance.field-0 c.advance.new.self.line c.in_ok-read.read
    c.loop-number.invariant.going c.in_ok-advance.ensures.next (search rules) (subst (λ (line : List ℕ). ReadsScript c.args.count line c.in_ok-read.read) c.line.ensures c.in_ok-read.ensures.exact) (search rules) (search rules)

pub loop-number-preserved : goal.loop-number-preserved
loop-number-preserved g c = record {
  going =
      going-on c.args.count (g.R.Source.remaining c.args.reader.now) (g.W.Sink.contents c.args.writer.now)
      (prepend_known c.loop-number.lines.ahead (g.R.Source.remaining c.loop-number.reader)) (prepend_known c.advance.new.self.ahead (g.R.Source.remaining c.advance.new.source))
      (g.W.Sink.contents c.loop-number.writer) (g.W.Sink.contents c.write_outcome.new.writer)
      c.loop-number.tally c.after-tally.result c.loop-number.number c.in_ok-advance.field-0 c.advance.new.self.line c.in-Some.order c.in_ok-read.read c.in_ok-outcome-in-Some.outcome
      c.loop-number.invariant.going c.in_ok-advance.ensures.next (search rules) (subst (λ (line : List ℕ). ReadsScript c.args.count line c.in_ok-read.read) c.line.ensures c.in_ok-read.ensures.exact) (search rules) c.in_ok-outcome-in-Some.ensures.ends (search rules) (search rules);
  next =
      next-more c.loop-number.number (g.R.Source.remaining c.args.reader.now)
      (prepend_known c.loop-number.lines.ahead (g.R.Source.remaining c.loop-number.reader)) (prepend_known c.advance.new.self.ahead (g.R.Source.remaining c.advance.new.source))
      c.in_ok-advance.field-0 c.advance.new.self.line c.loop-number.invariant.next c.in_ok-advance.ensures.next (search rules);
  count = c.obey.ensures.count ∙ c.loop-number.invariant.count;
}
