use Rattle.std.proofs.Common.{refl, sym, ap, ◌∙◌}
use Rattle.cb_work.specs.PeerWork.{WorkState, is_over}
use Rattle.cb_work.proofs.Keeping.{keeps}
use Rattle.cb_work.proofs.Serving.{kept_or_shed, serves_shed, shed_closed}
use Rattle.cb_work.proofs.peer_work.PeerWork.shed.Goals as goal

pub invariant_of-self : goal.invariant_of-self
invariant_of-self g c =
    let shed = kept_or_shed c.self.inside.trace c.shed.new.self 0 c.shed.ensures.kept c.shed.ensures.shed in
    keeps g.H.Oracle.told g.H.Oracle.refused g.S.Sink.contents g.S.Sink.has_failed g.F.Flags.is_stopped _ _ c.self.invariant.items c.self.invariant.beats c.self.invariant refl refl
    (λ over. c.self.invariant.stopped (sym (shed_closed c.self.inside.trace c.shed.new.self shed) ∙ over))
    (serves_shed g.H.Oracle.told g.H.Oracle.refused g.S.Sink.contents g.S.Sink.has_failed g.met.H.Oracle.same_connection _ c.shed.new.self c.self.invariant.items c.self.invariant.beats shed c.self.invariant.serves)

pub returns-clause-over : goal.returns-clause-over
returns-clause-over g c =
    shed_closed c.self.inside.trace c.shed.new.self (kept_or_shed c.self.inside.trace c.shed.new.self 0 c.shed.ensures.kept c.shed.ensures.shed)
    ∙ (ap (λ (w : WorkState _ _ _). is_over w) c.self.view_is ∙ c.requires.over)

pub returns-clause-serves : goal.returns-clause-serves
returns-clause-serves g c =
    let shed = kept_or_shed c.self.inside.trace c.shed.new.self 0 c.shed.ensures.kept c.shed.ensures.shed in
    rw (← c.self.view_is) (λ items beats s.
    serves_shed g.H.Oracle.told g.H.Oracle.refused g.S.Sink.contents g.S.Sink.has_failed g.met.H.Oracle.same_connection _ c.shed.new.self items beats shed s)
