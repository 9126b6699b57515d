use Rattle.std.proofs.Common.{IfOk, subst, sym, ap, ◌∙◌}
use Rattle.cb_peer_state.specs.Outcomes.{Answers}
use Rattle.cb_peer_state.specs.Session.{Stepped, is_light}
use Rattle.cb_trace.proofs.Entries.{fed_is}
use Rattle.cb_trace.proofs.trace.hear.Goals as goal

pub returns-clause-ok : goal.returns-clause-ok
returns-clause-ok c =
    subst (λ (made : Stepped). IfOk c.step.result (λ it. Answers made c.step.new.self it.0.items it.1))
    (sym (fed_is c.args.before c.args.session.now c.args.event.now c.requires.going c.if-before-eq-LAST_ENTRY.false))
    c.step.ensures.ok

-- an answer by which little comes can't have failed
pub returns-clause-silent : goal.returns-clause-silent
returns-clause-silent c = λ little nothing light.
    let same = sym (fed_is c.args.before c.args.session.now c.args.event.now c.requires.going c.if-before-eq-LAST_ENTRY.false) in
    c.step.ensures.silent little (ap (λ (made : Stepped). made.messages) same ∙ nothing) (ap (λ (made : Stepped). is_light made.question) same ∙ light)
