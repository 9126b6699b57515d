use Rattle.std.proofs.Common.{[], ap, false, refl, sym, ◌∙◌}
use Rattle.cb_wire.specs.Stream.{texts}
use Rattle.cb_peer_state.specs.State.{is_closed}
use Rattle.cb_trace.specs.Trace.{TraceView}
use Rattle.cb_session.specs.Conversation.{progress}
use Rattle.cb_session.proofs.Accounts.{may_ask_kept, not_both, open_told, open_whole, pending_on, underway_nil}
use Rattle.cb_session.proofs.conversation.Conversation.follow_up.Goals as goal

pub send-requires : goal.send-requires
send-requires g c = record { silent = λ closed. not_both _ c.requires.going closed }

-- the write went wrong
pub returns-then-is_closed-clause-settled : goal.returns-then-is_closed-clause-settled
returns-then-is_closed-clause-settled g c =
    let closed = ap is_closed (sym c.state.ensures) ∙ sym c.is_closed.ensures ∙ c.if-is_closed.true in
    λ from inputs pends before u.
    rw (c.send.ensures.hall, c.send.ensures.badge)
    (record {
      sent = c.send.ensures.accounts from inputs (texts c.args.sent.items) [] _ _ u (λ same. not_both _ (ap (λ (t : TraceView). is_closed t.session.state) same ∙ c.requires.going) closed) before;
      answered = λ going. not_both _ going closed;
    })

pub send-requires-2 : goal.send-requires-2
send-requires-2 g c =
    let going = ap is_closed (sym c.state.ensures) ∙ sym c.is_closed.ensures ∙ c.if-is_closed.false in
    record { silent = λ closed. not_both _ going closed }

pub converse-requires : goal.converse-requires
converse-requires g c =
    let going = ap is_closed (sym c.state.ensures) ∙ sym c.is_closed.ensures ∙ c.if-is_closed.false in
    record { stands = may_ask_kept c.args.self.now.trace.now c.send-2.new.self.trace.now _ (λ h. c.send-2.ensures.kept h ∙ c.send.ensures.kept going) c.requires.stands }

pub returns-clause-heeds : goal.returns-clause-heeds
returns-clause-heeds g c =
    λ h.
    let first = c.send.ensures.heeds h in
    let second = c.send-2.ensures.heeds first.1 in
    let third = c.converse.ensures.heeds second.1 in
    (g.met.W.Sink.heeds_then _ _ _ (g.met.W.Sink.heeds_then _ _ _ first.0 second.0) third.0, third.1)

pub returns-clause-settled : goal.returns-clause-settled
returns-clause-settled g c =
    let going = ap is_closed (sym c.state.ensures) ∙ sym c.is_closed.ensures ∙ c.if-is_closed.false in
    λ from inputs pends before u.
    let first = c.send.ensures.accounts from inputs (texts c.args.sent.items) (texts c.args.sent.items) c.args.self.now.hall.now c.args.self.now.badge.now u (λ _. refl) before in
    let between = progress c.send.new.self.trace.now c.args.self.now.hall.now c.args.self.now.badge.now (g.W.Sink.contents c.send.new.self.writer.now) (g.W.Sink.has_failed c.send.new.self.writer.now) c.send.new.self.written in
    let second = c.send-2.ensures.accounts from inputs [] [] c.args.self.now.hall.now c.args.self.now.badge.now
    (underway_nil g.H.Oracle.told g.H.Oracle.refused from between inputs (texts c.args.sent.items) false (record { lost = false; accounts = open_whole g.H.Oracle.told g.H.Oracle.refused from between inputs (texts c.args.sent.items) first going })) (λ _. refl)
    (open_told g.H.Oracle.told g.H.Oracle.refused from between inputs (texts c.args.sent.items) first going) in
    c.converse.ensures.settled from inputs
    (pending_on c.args.self.now.trace.now c.send-2.new.self.trace.now _ (λ h. c.send-2.ensures.kept h ∙ c.send.ensures.kept going) pends)
    (rw (c.send-2.ensures.hall, c.send-2.ensures.badge, c.send.ensures.hall, c.send.ensures.badge) second)
