use Rattle.std.proofs.Common.{◌≤◌, length, ap, ◌∙◌, arith}
use Rattle.std.proofs.lemmas.List.{length_push}
use Rattle.std.specs.Vec.{vec_capacity}
use Rattle.cb_crew.specs.Desk.{DeskState}
use Rattle.cb_crew.specs.Turn.{HandlerState}
use Rattle.cb_crew.specs.Crew.{CrewState}
use Rattle.cb_crew.proofs.NewCrews.{hiring_more, hiring_done}
use Rattle.cb_crew.proofs.crew.Crew.hire_all.Goals as goal

pub loop-preserved : goal.loop-preserved
loop-preserved g c = (
  hiring_more c.args.self.now c.loop.hand _ c.hire-hired.result c.new-in-loop.result _ _ _ c.loop.handlers.items _ (omega (arith, c.loop.invariant.0.count, c.loop.invariant.1, c.loop-test.true, c.handlers-end.ensures)) c.hire-hired.ensures.hired c.hire-hired.ensures.hand (ap vec_capacity c.replace-list.ensures.value) c.new-in-loop.ensures c.push_reserved.ensures.items c.loop.invariant.0,
  omega (arith, ap (length {A = HandlerState (DeskState _ _)}) c.push_reserved.ensures.items, length_push c.loop.handlers.items c.new-in-loop.result, c.loop.invariant.1),
  ap (λ v. v.items) c.replace-list.ensures.after ∙ c.new.ensures.items,
  omega (arith, c.push_reserved.ensures.capacity, c.loop.invariant.3),
)

pub returns : goal.returns
returns g c =
    let within : c.loop.counter ≤ c.handlers-end.result = c.loop.auto.counter-end (omega (arith, c.self.invariant.working, c.handlers-end.ensures, ap (λ (k : CrewState). k.handlers) c.self.view_is)) in
    hiring_done c.args.self.now c.loop.hand c.new-2.result (vec_capacity c.loop.desks) c.loop.handlers.items c.push_reserved-2.new.self.items (omega (arith, c.loop.invariant.0.count, c.loop.invariant.1, c.loop-test.false, c.handlers-end.ensures, within)) c.new-2.ensures c.push_reserved-2.ensures.items c.loop.invariant.0
