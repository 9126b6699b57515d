use Rattle.std.proofs.lemmas.Result.{IfOk-weaker, on_err_weaker}
use Rattle.cb_session.proofs.Accounts.{asks_next, left_asked, question_open}
use Rattle.cb_net_node.proofs.Talking.{answered_into, answered_lost, breaks_ran}
use Rattle.cb_net_node.proofs.exchanging.answer_into.Goals as goal

pub returns-then-not-ready-clause-err : goal.returns-then-not-ready-clause-err
returns-then-not-ready-clause-err g c =
    breaks_ran g.H.Oracle.told (record { none = g.met.H.Oracle.told_none; next = g.met.H.Oracle.told_then }) c.args.trace.now c.ready.new.self c.args.hall.now c.args.badge.now c.if-not-ready.ensures.readied

pub returns-clause-ok : goal.returns-clause-ok
returns-clause-ok g c =
    IfOk-weaker c.step_into.result _ _
    (λ asked s.
    answered_into g.H.Oracle.told g.H.Oracle.refused (record { none = g.met.H.Oracle.told_none; next = g.met.H.Oracle.told_then }) c.args.trace.now c.ready.new.self c.step_into.new.trace c.args.hall.now c.ask_hall-event.new.hall c.args.badge.now c.ask_hall-event.new.badge c.args.question c.ask_hall-event.result asked _ _
    c.if-not-ready.ensures.readied.rests.same (question_open c.args.trace.now c.args.question c.requires.stands).1 c.ask_hall-event.ensures s)
    c.step_into.ensures.ok

pub returns-clause-asks : goal.returns-clause-asks
returns-clause-asks g c =
    IfOk-weaker c.step_into.result _ _
    (λ asked s.
    asks_next c.args.trace.now c.ready.new.self c.step_into.new.trace c.args.question asked c.requires.stands c.if-not-ready.ensures.readied.rests.same s.steps.stands
    (left_asked g.H.Oracle.told g.H.Oracle.refused c.args.hall.now c.ask_hall-event.new.hall c.args.badge.now c.ask_hall-event.new.badge c.args.trace.now c.ready.new.self c.step_into.new.trace c.args.question c.ask_hall-event.result _
    c.requires.stands c.if-not-ready.ensures.readied.rests.same c.ask_hall-event.ensures s.steps.grows))
    c.step_into.ensures.ok

pub returns-clause-fewer : goal.returns-clause-fewer
returns-clause-fewer g c =
    IfOk-weaker c.step_into.result _ _
    (λ asked s.
    left_asked g.H.Oracle.told g.H.Oracle.refused c.args.hall.now c.ask_hall-event.new.hall c.args.badge.now c.ask_hall-event.new.badge c.args.trace.now c.ready.new.self c.step_into.new.trace c.args.question c.ask_hall-event.result _
    c.requires.stands c.if-not-ready.ensures.readied.rests.same c.ask_hall-event.ensures s.steps.grows)
    c.step_into.ensures.ok

pub returns-clause-err : goal.returns-clause-err
returns-clause-err g c =
    on_err_weaker c.step_into.result
    (λ s.
    answered_lost g.H.Oracle.told g.H.Oracle.refused (record { none = g.met.H.Oracle.told_none; next = g.met.H.Oracle.told_then }) c.args.trace.now c.ready.new.self c.step_into.new.trace c.args.hall.now c.ask_hall-event.new.hall c.args.badge.now c.ask_hall-event.new.badge c.args.question c.ask_hall-event.result
    c.if-not-ready.ensures.readied.rests.same (question_open c.args.trace.now c.args.question c.requires.stands).1 c.ask_hall-event.ensures s)
    c.step_into.ensures.err
