use Rattle.std.proofs.Common.{refl, sym, ap, ◌∙◌, arith}
use Rattle.cb_peer_state.specs.Session.{openings}
use Rattle.cb_trace.specs.declared.trace.Counts.{Counts}
use Rattle.cb_session.proofs.Accounts.{not_both}
use Rattle.cb_work.specs.PeerWork.{WorkState, is_over, work_state}
use Rattle.cb_work.proofs.Keeping.{keeps}
use Rattle.cb_work.proofs.Renewing.{opens_anew, serves_anew}
use Rattle.cb_work.proofs.peer_work.PeerWork.begin_anew.Goals as goal

pub invariant_of-self : goal.invariant_of-self
invariant_of-self g c =
    rw (c.replace.ensures.after, c.replace-in-Ok.ensures.after)
    (keeps g.H.Oracle.told g.H.Oracle.refused g.S.Sink.contents g.S.Sink.has_failed g.F.Flags.is_stopped
    (work_state c.self.inside.trace c.self.inside.badge c.self.inside.outlet.slot c.self.inside.outlet.sink c.self.inside.hall c.self.inside.flags c.self.inside.written c.self.inside.unsent.items) _
    c.self.invariant.items c.self.invariant.beats c.self.invariant refl refl (λ over. not_both _ (opens_anew c.in-Ok.trace c.in-Ok.ensures.history) over)
    (serves_anew g.H.Oracle.told g.H.Oracle.refused g.S.Sink.contents g.S.Sink.has_failed
    (work_state c.self.inside.trace c.self.inside.badge c.self.inside.outlet.slot c.self.inside.outlet.sink c.self.inside.hall c.self.inside.flags c.self.inside.written c.self.inside.unsent.items)
    c.in-Ok.trace c.in-Ok.unsent.items c.self.invariant.items c.self.invariant.beats
    (ap (λ (w : WorkState _ _ _). is_over w) c.self.view_is ∙ c.requires.going) (omega (arith, c.if-total-ne0.false, ap (λ (k : Counts). k.entries) c.total.ensures))
    c.in-Ok.ensures.history (c.in-Ok.ensures.messages ∙ ap openings (sym c.in-Ok.ensures.settings)) c.self.invariant.serves))

pub returns-in-Ok-clause-going : goal.returns-in-Ok-clause-going
returns-in-Ok-clause-going g c = rw c.replace.ensures.after (opens_anew c.in-Ok.trace c.in-Ok.ensures.history)

pub returns-in-Ok-clause-serves : goal.returns-in-Ok-clause-serves
returns-in-Ok-clause-serves g c =
    rw (← c.self.view_is, c.replace.ensures.after, c.replace-in-Ok.ensures.after) (λ items beats s.
    serves_anew g.H.Oracle.told g.H.Oracle.refused g.S.Sink.contents g.S.Sink.has_failed
    (work_state c.self.inside.trace c.self.inside.badge c.self.inside.outlet.slot c.self.inside.outlet.sink c.self.inside.hall c.self.inside.flags c.self.inside.written c.self.inside.unsent.items)
    c.in-Ok.trace c.in-Ok.unsent.items items beats
    (ap (λ (w : WorkState _ _ _). is_over w) c.self.view_is ∙ c.requires.going) (omega (arith, c.if-total-ne0.false, ap (λ (k : Counts). k.entries) c.total.ensures))
    c.in-Ok.ensures.history (c.in-Ok.ensures.messages ∙ ap openings (sym c.in-Ok.ensures.settings)) s)
