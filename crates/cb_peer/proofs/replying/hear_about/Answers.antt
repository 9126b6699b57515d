use Rattle.cb_peer_state.proofs.Lights.{following_sent, locator_light}
use Rattle.cb_peer.proofs.replying.hear_about.Goals as goal

pub returns-in-Locator-clause-silent : goal.returns-in-Locator-clause-silent
returns-in-Locator-clause-silent c = λ subject weighs light. c.ask_headers.ensures.silent (locator_light c.args.session.now c.args.item.now subject c.args.answer.now c.in-Locator.locator c.in-Locator.is light)

pub returns-in-Following-clause-silent : goal.returns-in-Following-clause-silent
returns-in-Following-clause-silent c = λ subject weighs light. following_sent c.args.session.now c.args.item.now subject c.args.answer.now c.in-Following.headers c.in-Following.is light
