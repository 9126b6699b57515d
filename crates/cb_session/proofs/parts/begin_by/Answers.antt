use Rattle.std.proofs.Common.{◌++◌, ap, false, refl, subst, sym, ◌∙◌}
use Rattle.cb_peer_state.specs.State.{is_closed}
use Rattle.cb_trace.specs.Kept.{KeepsHistory}
use Rattle.cb_trace.specs.Trace.{TraceView}
use Rattle.cb_session.specs.Conversation.{input_in, with_event}
use Rattle.cb_session.proofs.Standing.{stands_at}
use Rattle.cb_session.proofs.parts.begin_by.Goals as goal

pub returns-clause-heeds : goal.returns-clause-heeds
returns-clause-heeds g c =
    let trace = c.trace-1.given.1 (sym (c.begin-unsent.ensures.ends.0 ∙ c.new-conversation.ensures.ends.0)) in
    let writer = c.writer-1.given.1 (sym (c.begin-unsent.ensures.ends.1 ∙ c.new-conversation.ensures.ends.1)) in
    rw (trace, writer, ← c.new-conversation.ensures.trace, ← c.new-conversation.ensures.writer) c.begin-unsent.ensures.heeds

pub returns-clause-ended : goal.returns-clause-ended
returns-clause-ended g c =
    let trace = c.trace-1.given.1 (sym (c.begin-unsent.ensures.ends.0 ∙ c.new-conversation.ensures.ends.0)) in
    λ ends. ap (λ (t : TraceView). is_closed t.session.state) trace ∙ c.begin-unsent.ensures.ended ends

pub returns-clause-stands : goal.returns-clause-stands
returns-clause-stands g c =
    let trace = c.trace-1.given.1 (sym (c.begin-unsent.ensures.ends.0 ∙ c.new-conversation.ensures.ends.0)) in
    let writer = c.writer-1.given.1 (sym (c.begin-unsent.ensures.ends.1 ∙ c.new-conversation.ensures.ends.1)) in
    let hall = c.hall-1.given.1 (sym (c.begin-unsent.ensures.ends.2 ∙ c.new-conversation.ensures.ends.2)) in
    let badge = c.badge-1.given.1 (sym (c.begin-unsent.ensures.ends.3 ∙ c.new-conversation.ensures.ends.3)) in
    λ from inputs s.
    stands_at g.H.Oracle.told g.H.Oracle.refused (with_event from c.args.event) c.begin-unsent.new.self.trace.now _ c.begin-unsent.new.self.hall.now _ c.begin-unsent.new.self.badge.now _
    (g.W.Sink.contents c.begin-unsent.new.self.writer.now) _ (g.W.Sink.has_failed c.begin-unsent.new.self.writer.now) _ c.begin-unsent.new.self.written _ (inputs ++ input_in c.args.event) _ false
    trace hall badge (ap g.W.Sink.contents writer) (ap g.W.Sink.has_failed writer) c.written.ensures
    (c.begin-unsent.ensures.stands from inputs
    (stands_at g.H.Oracle.told g.H.Oracle.refused from c.args.trace.now _ c.args.hall.now _ c.args.badge.now _ (g.W.Sink.contents c.args.writer.now) _ (g.W.Sink.has_failed c.args.writer.now) _ c.args.written.now _ inputs _ false
    c.new-conversation.ensures.trace c.new-conversation.ensures.hall c.new-conversation.ensures.badge (ap g.W.Sink.contents c.new-conversation.ensures.writer) (ap g.W.Sink.has_failed c.new-conversation.ensures.writer) c.new-conversation.ensures.written s))

pub returns-clause-none : goal.returns-clause-none
returns-clause-none g c =
    let trace = c.trace-1.given.1 (sym (c.begin-unsent.ensures.ends.0 ∙ c.new-conversation.ensures.ends.0)) in
    λ going. c.begin-unsent.ensures.none (ap (λ (t : TraceView). is_closed t.session.state) (sym trace) ∙ going)

pub returns-clause-keeps : goal.returns-clause-keeps
returns-clause-keeps g c =
    let trace = c.trace-1.given.1 (sym (c.begin-unsent.ensures.ends.0 ∙ c.new-conversation.ensures.ends.0)) in
    λ keeps. subst KeepsHistory (sym trace) (c.begin-unsent.ensures.keeps (subst KeepsHistory (sym c.new-conversation.ensures.trace) keeps))
