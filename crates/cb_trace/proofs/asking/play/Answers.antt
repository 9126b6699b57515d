use Rattle.std.proofs.Common.{sym, ap, ◌∙◌}
use Rattle.cb_peer_state.specs.Session.{Stepped}
use Rattle.cb_peer_state.specs.State.{is_closed}
use Rattle.cb_trace.proofs.Questions.{steps_again}
use Rattle.cb_trace.proofs.asking.play.Goals as goal

pub returns-clause-same : goal.returns-clause-same
returns-clause-same c =
    let going = ap is_closed (sym c.state.ensures) ∙ sym c.is_closed.ensures ∙ c.if-is_closed.false in
    c.in_ok-_sent.ensures.ok.after ∙ ap (λ (made : Stepped). made.session) (steps_again c.args.before c.args.session.now c.args.entry.now going c.if-before-eq-LAST_ENTRY.false c.if-entry.false)

pub returns-clause-asked : goal.returns-clause-asked
returns-clause-asked c =
    let going = ap is_closed (sym c.state.ensures) ∙ sym c.is_closed.ensures ∙ c.if-is_closed.false in
    c.in_ok-_sent.ensures.ok.question ∙ ap (λ (made : Stepped). made.question) (steps_again c.args.before c.args.session.now c.args.entry.now going c.if-before-eq-LAST_ENTRY.false c.if-entry.false)
