use Rattle.std.proofs.Common.{ap, true, false, refl, subst, sym, ◌∙◌}
use Rattle.cb_peer_state.specs.State.{is_closed}
use Rattle.cb_trace.specs.Kept.{KeepsHistory}
use Rattle.cb_trace.specs.Trace.{TraceView}
use Rattle.cb_session.proofs.Standing.{stands_at}
use Rattle.cb_session.proofs.parts.lose_by.Goals as goal

pub returns-clause-hall : goal.returns-clause-hall
returns-clause-hall g c = c.hall-1.given.1 (sym (c.lose.ensures.ends.2 ∙ c.new-conversation.ensures.ends.2)) ∙ c.lose.ensures.hall ∙ c.new-conversation.ensures.hall

pub returns-clause-badge : goal.returns-clause-badge
returns-clause-badge g c = c.badge-1.given.1 (sym (c.lose.ensures.ends.3 ∙ c.new-conversation.ensures.ends.3)) ∙ c.lose.ensures.badge ∙ c.new-conversation.ensures.badge

pub returns-clause-sink : goal.returns-clause-sink
returns-clause-sink g c = c.writer-1.given.1 (sym (c.lose.ensures.ends.1 ∙ c.new-conversation.ensures.ends.1)) ∙ c.lose.ensures.sink ∙ c.new-conversation.ensures.writer

pub returns-clause-closed : goal.returns-clause-closed
returns-clause-closed g c = ap (λ (t : TraceView). is_closed t.session.state) (c.trace-1.given.1 (sym (c.lose.ensures.ends.0 ∙ c.new-conversation.ensures.ends.0))) ∙ c.lose.ensures.closed

pub returns-clause-stands : goal.returns-clause-stands
returns-clause-stands g c =
    let trace = c.trace-1.given.1 (sym (c.lose.ensures.ends.0 ∙ c.new-conversation.ensures.ends.0)) in
    let writer = sym (c.lose.ensures.sink ∙ c.new-conversation.ensures.writer) in
    λ from inputs held_back s.
    stands_at g.H.Oracle.told g.H.Oracle.refused from c.lose.new.self.trace.now _ c.lose.new.self.hall.now _ c.lose.new.self.badge.now _
    (g.W.Sink.contents c.lose.new.self.writer.now) _ (g.W.Sink.has_failed c.lose.new.self.writer.now) _ c.lose.new.self.written _ inputs held_back true
    trace (sym (c.lose.ensures.hall ∙ c.new-conversation.ensures.hall)) (sym (c.lose.ensures.badge ∙ c.new-conversation.ensures.badge)) (ap g.W.Sink.contents writer) (ap g.W.Sink.has_failed writer)
    (sym (c.lose.ensures.written ∙ c.new-conversation.ensures.written))
    (c.lose.ensures.stands from inputs held_back refl
    (stands_at g.H.Oracle.told g.H.Oracle.refused from c.args.trace.now _ c.args.hall.now _ c.args.badge.now _ (g.W.Sink.contents c.args.writer.now) _ (g.W.Sink.has_failed c.args.writer.now) _ c.args.written _ inputs held_back false
    c.new-conversation.ensures.trace c.new-conversation.ensures.hall c.new-conversation.ensures.badge (ap g.W.Sink.contents c.new-conversation.ensures.writer) (ap g.W.Sink.has_failed c.new-conversation.ensures.writer) c.new-conversation.ensures.written s))

pub returns-clause-keeps : goal.returns-clause-keeps
returns-clause-keeps g c =
    let trace = c.trace-1.given.1 (sym (c.lose.ensures.ends.0 ∙ c.new-conversation.ensures.ends.0)) in
    λ keeps. subst KeepsHistory (sym trace) (c.lose.ensures.keeps (subst KeepsHistory (sym c.new-conversation.ensures.trace) keeps))
