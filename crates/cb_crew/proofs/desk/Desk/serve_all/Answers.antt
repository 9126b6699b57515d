use Rattle.std.proofs.Common.{[], refl, sym, ◌∙◌}
use Rattle.std.proofs.lemmas.List.{append-nil}
use Rattle.cb_crew.specs.Work.{IsUnticked}
use Rattle.cb_crew.proofs.Desks.{stepped_on}
use Rattle.cb_crew.proofs.LettingGo.{after_none, after_then}
use Rattle.cb_crew.proofs.Ticks.{works_same, unticked_step}
use Rattle.cb_crew.proofs.desk.Desk.serve_all.Goals as goal

pub loop-init : goal.loop-init
loop-init g c = ((refl, refl), ([], sym (append-nil c.args.self.now.taken)), works_same g.W.Work.ticked (IsUnticked g.W.Work.ticked) c.args.self.now c.args.self.now refl (λ at t. t), refl, after_none g.W.Work.label g.W.Work.given g.W.Work.ticked g.W.Work.is_closed g.W.Work.weight c.args.self.now c.args.self.now refl (λ _. refl))

pub returns-in-Empty-clause-ticks : goal.returns-in-Empty-clause-ticks
returns-in-Empty-clause-ticks g c = unticked_step g.W.Work.ticked c.args.self.now c.loop.self c.advance.new.self c.loop.invariant.2 c.advance.ensures.ticks

pub returns-in-Empty-clause-past : goal.returns-in-Empty-clause-past
returns-in-Empty-clause-past g c = after_then g.W.Work.label g.W.Work.given g.W.Work.ticked g.W.Work.is_closed g.W.Work.weight c.args.self.now c.loop.self c.advance.new.self c.loop.invariant.4 c.advance.ensures.past

pub loop-preserved : goal.loop-preserved
loop-preserved g c =
    let on = stepped_on g.W.Work.given g.W.Work.is_closed c.args.self.now c.loop.self c.advance.new.self c.advance.result c.loop.invariant.0 c.loop.invariant.1 c.advance.ensures.stepped in
    (on.0, on.1, unticked_step g.W.Work.ticked c.args.self.now c.loop.self c.advance.new.self c.loop.invariant.2 c.advance.ensures.ticks, c.advance.ensures.label ∙ c.loop.invariant.3, after_then g.W.Work.label g.W.Work.given g.W.Work.ticked g.W.Work.is_closed g.W.Work.weight c.args.self.now c.loop.self c.advance.new.self c.loop.invariant.4 c.advance.ensures.past)
