use Rattle.std.proofs.Common.{◌≡◌, [], true, false, IfOk, ap, subst, sym, ◌∙◌}
use Rattle.cb_peer_state.specs.declared.event.Event.TheVariants as events
use Rattle.cb_peer_state.specs.declared.session_state.SessionState.{SessionState}
use Rattle.cb_peer_state.specs.Outcomes.{Answers}
use Rattle.cb_peer_state.specs.Session.{Stepped, is_light, probed, spares, step_of, told}
use Rattle.cb_peer_state.specs.State.{is_closed}
use Rattle.cb_peer_state.proofs.Cases.{step_probed, step_told}
use Rattle.cb_peer.proofs.session.Session.step.Goals as goal

-- the step of an answer is what `hear_answer` makes of it
pub returns-in-Told-clause-ok : goal.returns-in-Told-clause-ok
returns-in-Told-clause-ok c =
    let kept = c.self.inside.kept in
    let going : is_closed kept.state ≡ false = sym c.is_closed.ensures ∙ c.if-is_closed.false in
    let same : told kept.pending kept c.in-Told.answer ≡ step_of c.args.self.now c.args.event.now =
    step_told c.args.self.now kept c.args.event.now c.in-Told.answer c.self.view_is c.in-Told.is going in
    subst (λ (step : Stepped). IfOk c.hear_answer.result (λ made. Answers step c.hear_answer.new.session made.0.items made.1)) same c.hear_answer.ensures.ok

pub returns-in-Told-clause-silent : goal.returns-in-Told-clause-silent
returns-in-Told-clause-silent c = λ spare silent light.
    let kept = c.self.inside.kept in
    let going : is_closed kept.state ≡ false = sym c.is_closed.ensures ∙ c.if-is_closed.false in
    let same : told kept.pending kept c.in-Told.answer ≡ step_of c.args.self.now c.args.event.now =
    step_told c.args.self.now kept c.args.event.now c.in-Told.answer c.self.view_is c.in-Told.is going in
    c.hear_answer.ensures.silent (ap (λ (s : SessionState). spares s (events.Told c.in-Told.answer)) c.self.view_is ∙ ap (spares c.args.self.now) (sym c.in-Told.is) ∙ spare)
    (ap (λ (step : Stepped). step.messages) same ∙ silent) (ap (λ (step : Stepped). is_light step.question) same ∙ light)

-- the step of a probe is what `probe` makes of it
pub returns-in-Probe-clause-ok : goal.returns-in-Probe-clause-ok
returns-in-Probe-clause-ok c =
    let kept = c.self.inside.kept in
    let going : is_closed kept.state ≡ false = sym c.is_closed.ensures ∙ c.if-is_closed.false in
    let same : probed kept ≡ step_of c.args.self.now c.args.event.now = step_probed c.args.self.now kept c.args.event.now c.self.view_is c.in-Probe.is going in
    subst (λ (step : Stepped). IfOk c.probe.result (λ made. Answers step c.probe.new.session made.0.items made.1)) same c.probe.ensures.ok

pub returns-in-Probe-clause-silent : goal.returns-in-Probe-clause-silent
returns-in-Probe-clause-silent c = λ spare silent light.
    let kept = c.self.inside.kept in
    let going : is_closed kept.state ≡ false = sym c.is_closed.ensures ∙ c.if-is_closed.false in
    let same : probed kept ≡ step_of c.args.self.now c.args.event.now = step_probed c.args.self.now kept c.args.event.now c.self.view_is c.in-Probe.is going in
    c.probe.ensures.silent (ap (λ (step : Stepped). step.messages) same ∙ silent)
