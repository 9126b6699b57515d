use Rattle.std.proofs.Common.{◌≡◌, Option, Some, true, false, ap, subst, sym, ◌∙◌}
use Rattle.cb_peer_state.specs.declared.pending.Pending.{Pending}
use Rattle.cb_peer_state.specs.declared.session_state.SessionState.{SessionState}
use Rattle.cb_peer_state.specs.Questions.{fits, question_of}
use Rattle.cb_peer_state.specs.Outcomes.{IsLightOutcome}
use Rattle.cb_peer_state.specs.Replying.{answered}
use Rattle.cb_peer_state.specs.Session.{weighs_at}
use Rattle.cb_peer_state.specs.State.{with_pending}
use Rattle.cb_peer_state.proofs.Lights.{spared, told_light}
use Rattle.cb_peer.proofs.stepping.hear_answer.Goals as goal

-- the answer is met with nothing pending any more
pub returns-clause-silent : goal.returns-clause-silent
returns-clause-silent c = λ spare silent light.
    let s = c.args.session.now in
    let waiting = c.in-Some.pending in
    let pends : s.pending ≡ Some waiting = sym c.in-Some.ensures.value in
    let met : fits (question_of s waiting.item waiting.stage) c.args.answer.now ≡ true = sym (c.is_met_by.ensures.fits s) ∙ c.if-not-is_met_by.false in
    let weighs = spared s waiting c.args.answer.now pends met spare in
    let outcome = told_light s waiting c.args.answer.now pends met silent light in
    let here = ap (λ (pending : Option Pending). with_pending pending s) (sym c.in-Some.ensures.after) in
    c.follow.ensures.silent (subst (λ (t : SessionState). weighs_at t waiting.item waiting.stage c.args.answer.now ≡ false) here weighs)
    (subst (λ (t : SessionState). IsLightOutcome (answered t waiting.item waiting.stage c.args.answer.now)) here outcome)
