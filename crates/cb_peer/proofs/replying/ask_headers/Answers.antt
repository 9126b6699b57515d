use Rattle.std.proofs.Common.{sym, ◌∙◌}
use Rattle.cb_peer_state.proofs.Lights.{headers_sent}
use Rattle.cb_peer.proofs.replying.ask_headers.Goals as goal

pub returns-in_err-copy-clause-silent : goal.returns-in_err-copy-clause-silent
returns-in_err-copy-clause-silent c = λ light. headers_sent c.args.session.now c.args.locator.now (sym c.remembers.ensures ∙ c.if-remembers.false) light

pub returns-in_err-messages-clause-silent : goal.returns-in_err-messages-clause-silent
returns-in_err-messages-clause-silent c = λ light. headers_sent c.args.session.now c.args.locator.now (sym c.remembers.ensures ∙ c.if-remembers.false) light
