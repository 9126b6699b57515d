use Rattle.cb_peer_state.specs.Replying.{replied}
use Rattle.cb_peer.proofs.Ending.{answered_light, kicked_silent}
use Rattle.cb_peer.proofs.stepping.react.Goals as goal

pub returns-in_err-reaction-clause-silent : goal.returns-in_err-reaction-clause-silent
returns-in_err-reaction-clause-silent c = λ weighs light.
    absurd (let ok = c.in_err-reaction.ensures.silent weighs (answered_light c.args.session.now c.args.item.now c.args.stage.now c.args.answer.now light) in cc)

pub returns-clause-calm : goal.returns-clause-calm
returns-clause-calm c = λ kicked.
    c.resume.ensures.silent (replied c.args.session.now c.args.item.now c.args.stage.now c.args.answer.now) c.args.item.now c.in_ok-reaction.ensures.ok
    (kicked_silent c.args.session.now c.args.item.now c.args.stage.now c.args.answer.now kicked)
