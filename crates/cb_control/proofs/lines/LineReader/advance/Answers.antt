use Rattle.std.proofs.Common.{rules, subst, sym, refl, Bool, true, false}
use Rattle.std.specs.Io.KnownBytes.{prepend_known}
use Rattle.cb_control.specs.Lines.{Cutting, Moves, NextLine}
use Rattle.cb_control.proofs.Cutting.{grown, next_line, last_line}
use Rattle.cb_control.proofs.lines.LineReader.advance.Goals as goal

pub returns-clause-next : goal.returns-clause-next
returns-clause-next g c =
    let moves : Moves true c.loop-self.self c.take_ahead.new.self = subst (λ (b : Bool). Moves b c.loop-self.self c.take_ahead.new.self) c.if-not-branch.false c.in_ok-take_ahead.ensures.moves in
    subst (λ (s : Cutting). NextLine true (prepend_known c.args.self.now.ahead (g.R.Source.remaining c.args.source.now)) (prepend_known s.ahead (g.R.Source.remaining c.loop-self.source)) s.line)
    (sym c.end_line.ensures)
    (next_line _ _ c.loop-self.self c.take_ahead.new.self _ c.loop-self.invariant.keeps c.loop-self.invariant.feedless moves refl)

pub returns-then-not-branch-2-clause-next : goal.returns-then-not-branch-2-clause-next
returns-then-not-branch-2-clause-next g c =
    let moves : Moves false c.loop-self.self c.take_ahead.new.self = subst (λ (b : Bool). Moves b c.loop-self.self c.take_ahead.new.self) c.if-not-branch.true c.in_ok-take_ahead.ensures.moves in
    last_line _ _ _ c.loop-self.self c.take_ahead.new.self _ _ _ c.loop-self.invariant.keeps c.loop-self.invariant.feedless moves (search rules) c.in_ok-read_ahead.ensures.read
    (search rules) (search rules) (search rules)

pub loop-self-smaller : goal.loop-self-smaller
loop-self-smaller g c =
    grown c.loop-self.self c.take_ahead.new.self c.read_ahead.new.self c.in_ok-take_ahead.field-0 c.in_ok-read_ahead.field-0
    c.in_ok-take_ahead.ensures.moves c.if-not-branch.true c.in_ok-take_ahead.ensures.room (search rules) c.in_ok-read_ahead.ensures.more c.if-not-branch-2.false
