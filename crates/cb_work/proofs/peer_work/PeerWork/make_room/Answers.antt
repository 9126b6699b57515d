use Rattle.std.proofs.Common.{refl, ap, ◌∙◌}
use Rattle.cb_work.specs.PeerWork.{WorkState, is_over}
use Rattle.cb_work.proofs.Keeping.{keeps}
use Rattle.cb_work.proofs.Serving.{serves_flags, serves_readied}
use Rattle.cb_work.proofs.peer_work.PeerWork.make_room.Goals as goal

pub invariant_of-self : goal.invariant_of-self
invariant_of-self g c =
    keeps g.H.Oracle.told g.H.Oracle.refused g.S.Sink.contents g.S.Sink.has_failed g.F.Flags.is_stopped _ _ c.self.invariant.items c.self.invariant.beats c.self.invariant refl refl c.stop_if_over.ensures.stopped
    (serves_flags g.H.Oracle.told g.H.Oracle.refused g.S.Sink.contents g.S.Sink.has_failed _ c.stop_if_over.new.flags c.self.invariant.items c.self.invariant.beats
    (serves_readied g.H.Oracle.told g.H.Oracle.refused g.S.Sink.contents g.S.Sink.has_failed
    (record { none = g.met.H.Oracle.told_none; next = g.met.H.Oracle.told_then; stays = g.met.H.Oracle.full_stays }) g.met.H.Oracle.same_connection _ c.ready-ready.new.self c.ready-ready.result c.self.invariant.items c.self.invariant.beats
    (ap (λ (w : WorkState _ _ _). is_over w) c.self.view_is ∙ c.requires.going) c.ready-ready.ensures.readied c.self.invariant.serves))

pub returns-clause-serves : goal.returns-clause-serves
returns-clause-serves g c =
    rw (← c.self.view_is) (λ items beats s.
    serves_flags g.H.Oracle.told g.H.Oracle.refused g.S.Sink.contents g.S.Sink.has_failed _ c.stop_if_over.new.flags items beats
    (serves_readied g.H.Oracle.told g.H.Oracle.refused g.S.Sink.contents g.S.Sink.has_failed
    (record { none = g.met.H.Oracle.told_none; next = g.met.H.Oracle.told_then; stays = g.met.H.Oracle.full_stays }) g.met.H.Oracle.same_connection _ c.ready-ready.new.self c.ready-ready.result items beats
    (ap (λ (w : WorkState _ _ _). is_over w) c.self.view_is ∙ c.requires.going) c.ready-ready.ensures.readied s))

pub returns-clause-keeps : goal.returns-clause-keeps
returns-clause-keeps g c = rw (← c.self.view_is) c.ready-ready.ensures.keeps
