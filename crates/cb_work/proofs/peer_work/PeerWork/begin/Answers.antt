use Rattle.std.proofs.Common.{refl, ap, ◌∙◌}
use Rattle.cb_work.specs.PeerWork.{WorkState, is_over, work_state}
use Rattle.cb_work.proofs.Keeping.{keeps_next}
use Rattle.cb_work.proofs.Serving.{next_badge, serves_next}
use Rattle.cb_work.proofs.peer_work.PeerWork.begin.Goals as goal

pub invariant_of-self : goal.invariant_of-self
invariant_of-self g c =
    keeps_next g.H.Oracle.told g.H.Oracle.refused g.S.Sink.contents g.S.Sink.has_failed g.F.Flags.is_stopped g.met.H.Oracle.same_connection
    (work_state c.self.inside.trace c.self.inside.badge c.self.inside.outlet.slot c.self.inside.outlet.sink c.self.inside.hall c.self.inside.flags c.self.inside.written c.self.inside.unsent.items) _ c.args.event c.self.invariant
    (ap (λ (w : WorkState _ _ _). is_over w) c.self.view_is ∙ c.requires.primed.0) c.requires.begins (λ from given k. c.begin_by-begun.ensures.stands from given (rw c.replace-unsent.ensures.value k)) refl c.stop_if_over.ensures.stopped

pub returns-clause-same : goal.returns-clause-same
returns-clause-same g c =
    rw (← c.self.view_is)
    (record {
      connection =
          next_badge g.H.Oracle.told g.H.Oracle.refused g.S.Sink.contents g.S.Sink.has_failed g.met.H.Oracle.same_connection
          (work_state c.self.inside.trace c.self.inside.badge c.self.inside.outlet.slot c.self.inside.outlet.sink c.self.inside.hall c.self.inside.flags c.self.inside.written c.self.inside.unsent.items)
          (work_state c.begin_by-begun.new.trace c.begin_by-begun.new.badge c.self.inside.outlet.slot c.begin_by-begun.new.writer c.begin_by-begun.new.hall c.stop_if_over.new.flags c.begin_by-begun.new.written c.begin_by-begun.result.unsent.items) c.args.event c.self.invariant.items c.self.invariant.beats
          (ap (λ (w : WorkState _ _ _). is_over w) c.self.view_is ∙ c.requires.primed.0) (λ from given k. c.begin_by-begun.ensures.stands from given (rw c.replace-unsent.ensures.value k)) c.self.invariant.serves;
      slot = refl;
      looked = c.stop_if_over.ensures.looked;
    })

pub returns-clause-serves : goal.returns-clause-serves
returns-clause-serves g c =
    rw (← c.self.view_is) (λ items beats s.
    serves_next g.H.Oracle.told g.H.Oracle.refused g.S.Sink.contents g.S.Sink.has_failed g.met.H.Oracle.same_connection
    (work_state c.self.inside.trace c.self.inside.badge c.self.inside.outlet.slot c.self.inside.outlet.sink c.self.inside.hall c.self.inside.flags c.self.inside.written c.self.inside.unsent.items) _ c.args.event items beats
    (ap (λ (w : WorkState _ _ _). is_over w) c.self.view_is ∙ c.requires.primed.0) c.requires.begins (λ from given k. c.begin_by-begun.ensures.stands from given (rw c.replace-unsent.ensures.value k)) s)
