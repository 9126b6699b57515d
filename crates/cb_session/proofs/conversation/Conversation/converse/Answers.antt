use Rattle.std.proofs.Common.{[], ap, false, refl, sym, ◌∙◌}
use Rattle.cb_peer_state.specs.State.{is_closed}
use Rattle.cb_session.proofs.Accounts.{may_ask_on, not_both, open_question_is, open_told, open_whole, pending_on, underway_nil}
use Rattle.cb_session.proofs.conversation.Conversation.converse.Goals as goal

pub ask-messages-requires : goal.ask-messages-requires
ask-messages-requires g c =
    let going = ap is_closed (sym c.state.ensures) ∙ sym c.is_closed.ensures ∙ c.if-is_closed.false in
    record { stands = open_question_is c.loop-next.self.trace.now c.in-Some.question going (c.loop-next.invariant.may c.in-Some.question c.in-Some.is going) }

pub loop-next-preserved : goal.loop-next-preserved
loop-next-preserved g c =
    let going = ap is_closed (sym c.state.ensures) ∙ sym c.is_closed.ensures ∙ c.if-is_closed.false in
    let stands = pending_on c.ask-messages.new.self.trace.now c.send.new.self.trace.now _ c.send.ensures.kept c.ask-messages.ensures.asks in
    record {
      ends = (
        c.send.ensures.ends.0 ∙ c.ask-messages.ensures.ends.0 ∙ c.loop-next.invariant.ends.0,
        c.send.ensures.ends.1 ∙ c.ask-messages.ensures.ends.1 ∙ c.loop-next.invariant.ends.1,
        c.send.ensures.ends.2 ∙ c.ask-messages.ensures.ends.2 ∙ c.loop-next.invariant.ends.2,
        c.send.ensures.ends.3 ∙ c.ask-messages.ensures.ends.3 ∙ c.loop-next.invariant.ends.3,
      );
      keeps = λ k. c.send.ensures.keeps (c.ask-messages.ensures.keeps (c.loop-next.invariant.keeps k));
      heeds =
          λ h.
          let before = c.loop-next.invariant.heeds h in
          let after = c.send.ensures.heeds (λ _. ap g.W.Sink.has_failed c.ask-messages.ensures.sink ∙ before.1 going) in
          (g.met.W.Sink.heeds_then _ _ _ before.0 (rw (← c.ask-messages.ensures.sink) after.0), after.1);
      stays = λ closed. not_both _ going (c.loop-next.invariant.stays closed);
      may = may_ask_on c.send.new.self.trace.now _ stands;
      stands = λ _. stands;
      sent =
          λ from inputs s.
          let sent = c.loop-next.invariant.sent from inputs s in
          rw (c.send.ensures.hall, c.send.ensures.badge)
          (c.send.ensures.accounts from inputs [] [] _ _
          (rw (c.ask-messages.ensures.sink, c.ask-messages.ensures.written)
          (underway_nil g.H.Oracle.told g.H.Oracle.refused from _ inputs _ false (c.ask-messages.ensures.accounts from inputs _ _ _ (open_whole g.H.Oracle.told g.H.Oracle.refused from _ inputs [] sent going))))
          (λ _. refl)
          (rw c.ask-messages.ensures.sink (open_told g.H.Oracle.told g.H.Oracle.refused from _ inputs [] sent going)));
    }
