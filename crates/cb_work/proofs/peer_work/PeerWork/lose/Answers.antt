use Rattle.std.proofs.Common.{refl, ap, ◌∙◌}
use Rattle.cb_hall.specs.Badge.{BadgeState}
use Rattle.cb_work.specs.PeerWork.{WorkState, is_over}
use Rattle.cb_work.proofs.Keeping.{keeps}
use Rattle.cb_work.proofs.Serving.{serves_lost}
use Rattle.cb_work.proofs.peer_work.PeerWork.lose.Goals as goal

pub invariant_of-self : goal.invariant_of-self
invariant_of-self g c =
    keeps g.H.Oracle.told g.H.Oracle.refused g.S.Sink.contents g.S.Sink.has_failed g.F.Flags.is_stopped _ _ _ c.self.invariant.beats c.self.invariant refl
    (ap (λ (b : BadgeState). b.connection) c.lose_by.ensures.badge) c.stop_if_over.ensures.stopped
    (serves_lost g.H.Oracle.told g.H.Oracle.refused g.S.Sink.contents g.S.Sink.has_failed g.met.H.Oracle.same_connection _ _ c.self.invariant.items c.self.invariant.beats
    (ap (λ (w : WorkState _ _ _). is_over w) c.self.view_is ∙ c.requires.going) c.lose_by.ensures.closed refl
    (λ from given held k. rw (c.lose_by.ensures.hall, c.lose_by.ensures.badge, c.lose_by.ensures.sink) (c.lose_by.ensures.stands from given held k)) c.self.invariant.serves)

pub returns-clause-serves : goal.returns-clause-serves
returns-clause-serves g c =
    rw (← c.self.view_is) (λ items beats s.
    serves_lost g.H.Oracle.told g.H.Oracle.refused g.S.Sink.contents g.S.Sink.has_failed g.met.H.Oracle.same_connection _ _ items beats
    (ap (λ (w : WorkState _ _ _). is_over w) c.self.view_is ∙ c.requires.going) c.lose_by.ensures.closed refl
    (λ from given held k. rw (c.lose_by.ensures.hall, c.lose_by.ensures.badge, c.lose_by.ensures.sink) (c.lose_by.ensures.stands from given held k)) s)
