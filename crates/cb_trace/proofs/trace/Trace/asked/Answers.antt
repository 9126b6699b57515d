use Rattle.std.proofs.Common.{◌≡◌, length, ap, ◌∙◌, arith}
use Rattle.std.proofs.lemmas.Result.{IfOk-weaker}
use Rattle.cb_peer_state.specs.declared.session_state.SessionState.{SessionState}
use Rattle.cb_trace.specs.Trace.{TraceView, asked_from}
use Rattle.cb_trace.proofs.Questions.{account_at, asked_from_base, asked_last, entries_few}
use Rattle.cb_trace.proofs.trace.Trace.asked.Goals as goal

pub questions_asked-requires : goal.questions_asked-requires
questions_asked-requires c =
    let few = entries_few c.args.self.now c.entries.ensures.history.0 c.entries.ensures.history.1 in
    let before = ap (λ (trace : TraceView). trace.before.entries) c.self.view_is in
    let since = ap length c.entries.ensures.entries in
    record {
      few = omega (arith, few, before, since);
      free = ap (λ (s : SessionState). s.pending) c.in_ok-session.ensures.equal ∙ c.self.invariant.0.free;
    }

pub returns-clause-last : goal.returns-clause-last
returns-clause-last c =
    let before = ap (λ (trace : TraceView). trace.before.entries) c.self.view_is in
    let base = c.in_ok-session.ensures.equal ∙ ap (λ (trace : TraceView). trace.base) c.self.view_is in
    IfOk-weaker c.questions_asked.result (λ asked. asked.items ≡ asked_from (account_at c.in_ok-session.session c.self.inside.before.entries) c.entries.result.now) _
    (λ asked is. λ history h. asked_last c.args.self.now history asked.items (is ∙ asked_from_base c.args.self.now _ _ _ base before c.entries.ensures.entries) h) c.questions_asked.ensures.asked
