use Rattle.std.proofs.Common.{◌∙◌, refl, sym}
use Rattle.cb_crew.specs.Desk.{desk_state}
use Rattle.cb_crew.proofs.Desks.{desk_kept}
use Rattle.cb_crew.proofs.LettingGo.{keeps_on}
use Rattle.cb_crew.proofs.desk.Desk.tick.Goals as goal

pub invariant_of-self : goal.invariant_of-self
invariant_of-self g c =
    (desk_kept g.W.Work.label g.W.Work.given g.W.Work.is_closed c.self.inside.inbox c.self.inside.seat c.self.inside.seat c.self.inside.work c.tick.new.self c.self.inside.past.works refl c.tick.ensures.label (λ _. sym c.closed.ensures ∙ c.if-not-closed.true) c.tick.ensures.given c.self.invariant.0, c.self.invariant.1, c.self.invariant.2, keeps_on g.W.Work.label g.W.Work.given g.W.Work.ticked g.W.Work.is_closed g.W.Work.weight g.W.Work.is_whole (desk_state c.self.inside.inbox c.self.inside.seat c.self.inside.work c.self.inside.past.works) (desk_state c.self.inside.inbox c.self.inside.seat c.tick.new.self c.self.inside.past.works) refl c.tick.ensures.whole c.self.invariant.3)
