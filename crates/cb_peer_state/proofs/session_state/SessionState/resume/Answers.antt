use Rattle.std.proofs.Common.{sym, ◌∙◌}
use Rattle.cb_peer_state.proofs.Resuming.{not_silent}
use Rattle.cb_peer_state.proofs.session_state.SessionState.resume.Goals as goal

pub returns-in_err-push-clause-silent : goal.returns-in_err-push-clause-silent
returns-in_err-push-clause-silent c = λ outcome item made silent.
    not_silent outcome item c.args.self.now c.in-Some.hash c.args.reaction.messages.items c.args.reaction.next (sym c.asks_news.ensures ∙ c.if-not-asks_news.false) c.in-Some.is (sym c.wants_none.ensures ∙ c.if-not-wants_none.false) made silent
