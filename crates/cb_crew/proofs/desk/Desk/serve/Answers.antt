use Rattle.std.proofs.Common.{◌+◌, ap, arith, refl, sym, subst, ◌∙◌}
use Rattle.cb_crew.specs.declared.desk.Count.{Count}
use Rattle.cb_crew.specs.Desk.{DeskState, HasServed}
use Rattle.cb_crew.specs.Work.{IsTicked, first_of}
use Rattle.cb_crew.proofs.Desks.{same_first, served_closed, served_empty, served_none, served_passed, served_worked}
use Rattle.cb_crew.proofs.LettingGo.{after_none, after_then}
use Rattle.cb_crew.proofs.Ticks.{ticked_step, works_same}
use Rattle.cb_crew.proofs.desk.Desk.serve.Goals as goal
use Rattle.cb_crew.proofs.desk.Desk.serve.Goals.{in-Worked+else-closed, in-Passed}

pub loop-init : goal.loop-init
loop-init g c =
    let old = c.args.self.now in
    let new = c.tick.new.self in (
      served_none g.W.Work.given g.W.Work.is_closed old new c.tick.ensures.line c.tick.ensures.past c.tick.ensures.given (λ closed. ap g.W.Work.is_closed (c.tick.ensures.closed closed) ∙ closed),
      refl,
      works_same g.W.Work.ticked (IsTicked g.W.Work.given g.W.Work.ticked g.W.Work.is_closed) old new c.tick.ensures.past c.tick.ensures.ticked,
      ap (λ past. g.W.Work.label (first_of past new.work)) c.tick.ensures.past ∙ same_first g.W.Work.label old.past old.work new.work c.tick.ensures.label,
      after_none g.W.Work.label g.W.Work.given g.W.Work.ticked g.W.Work.is_closed g.W.Work.weight old new c.tick.ensures.past c.tick.ensures.closed,
    )

pub returns-in-Empty-clause-ticks : goal.returns-in-Empty-clause-ticks
returns-in-Empty-clause-ticks g c = ticked_step g.W.Work.given g.W.Work.ticked g.W.Work.is_closed c.args.self.now c.loop.self c.advance.new.self c.loop.invariant.2 c.advance.ensures.ticks

pub returns-then-closed-clause-ticks : goal.returns-then-closed-clause-ticks
returns-then-closed-clause-ticks g c = ticked_step g.W.Work.given g.W.Work.ticked g.W.Work.is_closed c.args.self.now c.loop.self c.advance.new.self c.loop.invariant.2 c.advance.ensures.ticks

pub returns-in-Empty-clause-past : goal.returns-in-Empty-clause-past
returns-in-Empty-clause-past g c = after_then g.W.Work.label g.W.Work.given g.W.Work.ticked g.W.Work.is_closed g.W.Work.weight c.args.self.now c.loop.self c.advance.new.self c.loop.invariant.4 c.advance.ensures.past

pub returns-then-closed-clause-past : goal.returns-then-closed-clause-past
returns-then-closed-clause-past g c = after_then g.W.Work.label g.W.Work.given g.W.Work.ticked g.W.Work.is_closed g.W.Work.weight c.args.self.now c.loop.self c.advance.new.self c.loop.invariant.4 c.advance.ensures.past

pub loop-preserved : goal.loop-preserved
loop-preserved g c =
    let ticks = ticked_step g.W.Work.given g.W.Work.ticked g.W.Work.is_closed c.args.self.now c.loop.self c.advance.new.self c.loop.invariant.2 c.advance.ensures.ticks in
    let past = after_then g.W.Work.label g.W.Work.given g.W.Work.ticked g.W.Work.is_closed g.W.Work.weight c.args.self.now c.loop.self c.advance.new.self c.loop.invariant.4 c.advance.ensures.past in
    elim c.match-advance.branch [
      | in-Worked+else-closed w ↦ (
        subst (λ (n : Count). HasServed g.W.Work.given g.W.Work.is_closed c.args.self.now c.advance.new.self n.worked n.passed) (sym w.count-is) (served_worked g.W.Work.given g.W.Work.is_closed c.args.self.now c.loop.self c.advance.new.self c.loop.count.worked c.loop.count.passed c.loop.invariant.0 w.in-Worked.ensures.stepped),
        omega (arith, ap (λ (n : Count). n.worked + n.passed) w.count-is, c.loop.invariant.1),
        ticks,
        c.advance.ensures.label ∙ c.loop.invariant.3,
        past,
      )
      | in-Passed w ↦ (
        subst (λ (n : Count). HasServed g.W.Work.given g.W.Work.is_closed c.args.self.now c.advance.new.self n.worked n.passed) (sym w.count-is) (served_passed g.W.Work.given g.W.Work.is_closed c.args.self.now c.loop.self c.advance.new.self c.loop.count.worked c.loop.count.passed c.loop.invariant.0 w.in-Passed.ensures.stepped),
        omega (arith, ap (λ (n : Count). n.worked + n.passed) w.count-is, c.loop.invariant.1),
        ticks,
        c.advance.ensures.label ∙ c.loop.invariant.3,
        past,
      )
    ]

pub returns-then-closed-clause-served : goal.returns-then-closed-clause-served
returns-then-closed-clause-served g c = served_closed g.W.Work.given g.W.Work.is_closed c.args.self.now c.loop.self c.advance.new.self c.args.budget c.loop.count.worked c.loop.count.passed c.loop.invariant.0 (omega (arith, c.loop.invariant.1, c.loop-test.true)) c.in-Worked.ensures.stepped (ap (λ (d : DeskState _ _). g.W.Work.is_closed d.work) (sym c.self.view_is) ∙ (sym c.closed.ensures ∙ c.if-closed.true))

pub returns-in-Empty-clause-served : goal.returns-in-Empty-clause-served
returns-in-Empty-clause-served g c = served_empty g.W.Work.given g.W.Work.is_closed c.args.self.now c.loop.self c.advance.new.self c.args.budget c.loop.count.worked c.loop.count.passed c.loop.invariant.0 (omega (arith, c.loop.invariant.1, c.loop-test.true)) c.in-Empty.ensures.stepped
