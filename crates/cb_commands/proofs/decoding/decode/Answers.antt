use Rattle.std.proofs.Common.{rules}
use Rattle.std.specs.Io.KnownBytes.{prepend_known}
use Rattle.std.specs.Prelude.{string_bytes}
use Rattle.cb_control.proofs.Counting.{next-first, next-more}
use Rattle.cb_commands.proofs.Reporting.{going-start, going-hex, going-end, going-stop}
use Rattle.cb_commands.proofs.decoding.decode.Goals as goal

pub loop-number-init : goal.loop-number-init
loop-number-init g c = record {
  going =
      going-start (g.R.Source.remaining c.args.reader.now) (g.W.Sink.contents c.args.writer.now) c.in_ok-lines.lines.ahead c.new-decoding.result
      (search rules) c.new-decoding.ensures;
  next = next-first (g.R.Source.remaining c.args.reader.now) c.in_ok-lines.lines.ahead (search rules);
}

pub returns-then-not-branch-clause-report : goal.returns-then-not-branch-clause-report
returns-then-not-branch-clause-report g c =
    going-end (g.R.Source.remaining c.args.reader.now) (g.W.Sink.contents c.args.writer.now)
    (prepend_known c.loop-number.lines.ahead (g.R.Source.remaining c.loop-number.reader)) (prepend_known c.advance.new.self.ahead (g.R.Source.remaining c.advance.new.source))
    (g.W.Sink.contents c.loop-number.writer) (g.W.Sink.contents c.print_rest.new.writer)
    c.loop-number.decoding c.loop-number.number c.in_ok-advance.field-0 c.advance.new.self.line c.status.result
    c.loop-number.invariant.going c.in_ok-advance.ensures.next (search rules) (search rules) (search rules)

pub returns-in-None-clause-report : goal.returns-in-None-clause-report
returns-in-None-clause-report g c =
    going-stop (g.R.Source.remaining c.args.reader.now) (g.W.Sink.contents c.args.writer.now)
    (prepend_known c.loop-number.lines.ahead (g.R.Source.remaining c.loop-number.reader)) (prepend_known c.advance.new.self.ahead (g.R.Source.remaining c.advance.new.source))
    (g.W.Sink.contents c.loop-number.writer) (g.W.Sink.contents c.print_not_hex.new.writer)
    c.loop-number.decoding c.loop-number.number c.in_ok-advance.field-0 c.advance.new.self.line
    c.loop-number.invariant.going c.in_ok-advance.ensures.next (search rules) (search rules) (search rules)

pub loop-number-preserved : goal.loop-number-preserved
loop-number-preserved g c = record {
  going =
      going-hex (g.R.Source.remaining c.args.reader.now) (g.W.Sink.contents c.args.writer.now)
      (prepend_known c.loop-number.lines.ahead (g.R.Source.remaining c.loop-number.reader)) (prepend_known c.advance.new.self.ahead (g.R.Source.remaining c.advance.new.source))
      (g.W.Sink.contents c.loop-number.writer) (g.W.Sink.contents c.write_all.new.writer)
      c.loop-number.decoding c.line-in-loop-number.new.self c.loop-number.number c.in_ok-advance.field-0 c.advance.new.self.line (string_bytes c.in-Some.text)
      c.loop-number.invariant.going c.in_ok-advance.ensures.next (search rules) (search rules) (search rules);
  next =
      next-more c.loop-number.number (g.R.Source.remaining c.args.reader.now)
      (prepend_known c.loop-number.lines.ahead (g.R.Source.remaining c.loop-number.reader)) (prepend_known c.advance.new.self.ahead (g.R.Source.remaining c.advance.new.source))
      c.in_ok-advance.field-0 c.advance.new.self.line c.loop-number.invariant.next c.in_ok-advance.ensures.next (search rules);
}
