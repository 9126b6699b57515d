use Rattle.std.proofs.Common.{ap, refl, sym, inr, ◌∙◌}
use Rattle.cb_peer_state.specs.State.{is_closed}
use Rattle.cb_session.proofs.Accounts.{ran_closed, rest_open}
use Rattle.cb_trace.proofs.Traces.{ended_at_once}
use Rattle.cb_net_node.proofs.end.End.close.Goals as goal

pub returns-then-not-ready-clause-closes : goal.returns-then-not-ready-clause-closes
returns-then-not-ready-clause-closes c = inr c.if-not-ready.ensures.readied

pub returns-then-not-ready-clause-closed : goal.returns-then-not-ready-clause-closed
returns-then-not-ready-clause-closed c = ran_closed c.args.self.now.trace c.ready.new.self c.if-not-ready.ensures.readied

pub returns-clause-ok : goal.returns-clause-ok
returns-clause-ok c =
    let going = ap is_closed (sym c.state.ensures) ∙ sym c.is_closed.ensures ∙ c.if-is_closed.false in
    let ended = ended_at_once c.ready.new.self c.step-silent.new.self _ _ _ (rest_open c.args.self.now.trace c.ready.new.self c.if-not-ready.ensures.readied.rests.same going) refl refl c.step-silent.ensures in
    inr (going, record { between = c.ready.new.self; same = c.if-not-ready.ensures.readied.rests.same; grows = ended.0 })

pub returns-clause-closed : goal.returns-clause-closed
returns-clause-closed c =
    let going = ap is_closed (sym c.state.ensures) ∙ sym c.is_closed.ensures ∙ c.if-is_closed.false in
    (ended_at_once c.ready.new.self c.step-silent.new.self _ _ _ (rest_open c.args.self.now.trace c.ready.new.self c.if-not-ready.ensures.readied.rests.same going) refl refl c.step-silent.ensures).1
