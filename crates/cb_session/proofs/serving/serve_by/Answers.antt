use Rattle.std.proofs.Common.{[], ap, false, refl, sym, ◌∙◌}
use Rattle.cb_session.specs.Conversation.{origin_of}
use Rattle.cb_trace.specs.Trace.{TraceView}
use Rattle.cb_peer_state.specs.State.{is_closed}
use Rattle.cb_session.proofs.Accounts.{not_both, underway_nil}
use Rattle.cb_session.proofs.Ending.{accounts_first, first_free, first_open, serves_at}
use Rattle.cb_session.proofs.serving.serve_by.Goals as goal

-- a session begins open
pub send-requires : goal.send-requires
send-requires g c =
    record { silent = λ closed. not_both _ (first_open c.in_ok-trace.trace c.in_ok-trace.ensures.history) (ap (λ (t : TraceView). is_closed t.session.state) (sym c.new-conversation.ensures.trace) ∙ closed) }

-- nothing was written yet
pub returns-in_err-trace-clause-heeds : goal.returns-in_err-trace-clause-heeds
returns-in_err-trace-clause-heeds g c = λ unfailed. g.met.W.Sink.heeds_none _

pub returns-clause-served : goal.returns-clause-served
returns-clause-served g c =
    let from = origin_of c.args.settings c.args.hall.now c.args.badge.now (g.W.Sink.contents c.args.writer.now) (g.W.Sink.has_failed c.args.writer.now) in
    let first = accounts_first g.H.Oracle.told g.H.Oracle.refused (record { none = g.met.H.Oracle.told_none; next = g.met.H.Oracle.told_then; stays = g.met.H.Oracle.full_stays }) c.args.settings c.in_ok-trace.trace c.args.hall.now c.args.badge.now (g.W.Sink.contents c.args.writer.now) (g.W.Sink.has_failed c.args.writer.now)
    c.in_ok-trace.messages.items c.in_ok-trace.ensures.settings c.in_ok-trace.ensures.history c.in_ok-trace.ensures.messages in
    let opened = c.send.ensures.accounts from [] [] [] c.args.hall.now c.args.badge.now
    (rw (c.new-conversation.ensures.trace, c.new-conversation.ensures.writer, c.new-conversation.ensures.written)
    (underway_nil g.H.Oracle.told g.H.Oracle.refused from _ [] _ false (record { lost = false; accounts = first.accounts }))) (λ _. refl) (rw c.new-conversation.ensures.writer (λ h. h)) in
    let heard = c.hear_all-read.new.self.conversation in
    let served = c.hear_all-read.ensures.serves from
    (record {
      sent = rw (c.send.ensures.hall, c.send.ensures.badge, c.new-conversation.ensures.hall, c.new-conversation.ensures.badge) opened;
      answered = first_free c.in_ok-trace.trace _ c.in_ok-trace.ensures.history (λ h. c.send.ensures.kept h ∙ c.new-conversation.ensures.trace);
    }) in
    serves_at g.H.Oracle.told g.H.Oracle.refused from _ _ _ heard.trace.now _ heard.hall.now _ heard.badge.now _ (g.W.Sink.contents heard.writer.now) _ (g.W.Sink.has_failed heard.writer.now) _ heard.written _ c.hear_all-read.result
    (c.trace-3-1.given.1 (sym (c.hear_all-read.ensures.ends.0 ∙ c.send.ensures.ends.0 ∙ c.new-conversation.ensures.ends.0)))
    (c.hall-1.given.1 (sym (c.hear_all-read.ensures.ends.2 ∙ c.send.ensures.ends.2 ∙ c.new-conversation.ensures.ends.2)))
    (c.badge-1.given.1 (sym (c.hear_all-read.ensures.ends.3 ∙ c.send.ensures.ends.3 ∙ c.new-conversation.ensures.ends.3)))
    (ap g.W.Sink.contents (c.writer-1.given.1 (sym (c.hear_all-read.ensures.ends.1 ∙ c.send.ensures.ends.1 ∙ c.new-conversation.ensures.ends.1))))
    (ap g.W.Sink.has_failed (c.writer-1.given.1 (sym (c.hear_all-read.ensures.ends.1 ∙ c.send.ensures.ends.1 ∙ c.new-conversation.ensures.ends.1))))
    c.written-written.ensures served

pub returns-clause-heeds : goal.returns-clause-heeds
returns-clause-heeds g c =
    λ unfailed.
    let opened = c.send.ensures.heeds (λ _. ap g.W.Sink.has_failed c.new-conversation.ensures.writer ∙ unfailed) in
    let heard = c.hear_all-read.ensures.heeds opened.1 in
    let last = c.writer-1.given.1 (sym (c.hear_all-read.ensures.ends.1 ∙ c.send.ensures.ends.1 ∙ c.new-conversation.ensures.ends.1)) in
    rw (last, ← c.new-conversation.ensures.writer) (g.met.W.Sink.heeds_then _ _ _ opened.0 heard.0)
