use Rattle.std.proofs.Common.{List, [], sym, subst, true, false}
use Rattle.cb_wire.specs.Stream.{texts}
use Rattle.cb_wire.specs.declared.message.Message.{Message}
use Rattle.cb_trace.proofs.Keeping.{grown_keeps}
use Rattle.cb_session.specs.Conversation.{Accounts, progress}
use Rattle.cb_session.proofs.Accounts.{accounts_asked, accounts_ran, asks_next, left_asked, left_over, not_both, question_open, ran_closed, rest_open, silent_step}
use Rattle.cb_session.proofs.conversation.Conversation.ask.Goals as goal

pub returns-then-not-ready-clause-accounts : goal.returns-then-not-ready-clause-accounts
returns-then-not-ready-clause-accounts g c =
    λ from inputs held failed written a.
    record {
      lost = true;
      accounts =
          subst (λ (ms : List Message). Accounts g.H.Oracle.told g.H.Oracle.refused from (progress c.ready.new.self c.args.self.now.hall.now c.args.self.now.badge.now held failed written) inputs (texts ms) true false) (sym c.new.ensures.items)
          ((accounts_ran g.H.Oracle.told g.H.Oracle.refused (record { none = g.met.H.Oracle.told_none; next = g.met.H.Oracle.told_then; stays = g.met.H.Oracle.full_stays }) from c.args.self.now.trace.now c.ready.new.self c.args.self.now.hall.now c.args.self.now.badge.now held failed written inputs [] _ false
          (question_open c.args.self.now.trace.now c.args.question c.requires.stands).0 c.if-not-ready.ensures.readied a).accounts);
    }

pub returns-then-not-ready-clause-asks : goal.returns-then-not-ready-clause-asks
returns-then-not-ready-clause-asks g c = λ going. not_both _ going (ran_closed c.args.self.now.trace.now c.ready.new.self c.if-not-ready.ensures.readied)

pub returns-then-not-ready-clause-fewer : goal.returns-then-not-ready-clause-fewer
returns-then-not-ready-clause-fewer g c = left_over c.args.self.now.trace.now c.ready.new.self c.args.question c.requires.stands (ran_closed c.args.self.now.trace.now c.ready.new.self c.if-not-ready.ensures.readied)

pub returns-clause-accounts : goal.returns-clause-accounts
returns-clause-accounts g c =
    λ from inputs held failed written a.
    accounts_asked g.H.Oracle.told g.H.Oracle.refused (record { none = g.met.H.Oracle.told_none; next = g.met.H.Oracle.told_then; stays = g.met.H.Oracle.full_stays }) from c.args.self.now.trace.now c.ready.new.self c.step.new.self c.args.self.now.hall.now c.ask_hall-event.new.hall c.args.self.now.badge.now c.ask_hall-event.new.badge
    held failed written inputs c.args.question c.ask_hall-event.result _ _ (question_open c.args.self.now.trace.now c.args.question c.requires.stands).0 c.if-not-ready.ensures.readied.rests.same (question_open c.args.self.now.trace.now c.args.question c.requires.stands).1 c.ask_hall-event.ensures c.step.ensures a

pub returns-clause-asks : goal.returns-clause-asks
returns-clause-asks g c =
    asks_next c.args.self.now.trace.now c.ready.new.self c.step.new.self c.args.question _ c.requires.stands c.if-not-ready.ensures.readied.rests.same c.step.ensures.stands
    (left_asked g.H.Oracle.told g.H.Oracle.refused c.args.self.now.hall.now c.ask_hall-event.new.hall c.args.self.now.badge.now c.ask_hall-event.new.badge c.args.self.now.trace.now c.ready.new.self c.step.new.self c.args.question c.ask_hall-event.result _
    c.requires.stands c.if-not-ready.ensures.readied.rests.same c.ask_hall-event.ensures c.step.ensures.grows)

pub returns-clause-fewer : goal.returns-clause-fewer
returns-clause-fewer g c =
    left_asked g.H.Oracle.told g.H.Oracle.refused c.args.self.now.hall.now c.ask_hall-event.new.hall c.args.self.now.badge.now c.ask_hall-event.new.badge c.args.self.now.trace.now c.ready.new.self c.step.new.self c.args.question c.ask_hall-event.result _
    c.requires.stands c.if-not-ready.ensures.readied.rests.same c.ask_hall-event.ensures c.step.ensures.grows

pub returns-clause-silent : goal.returns-clause-silent
returns-clause-silent g c =
    silent_step c.ready.new.self c.step.new.self c.ask_hall-event.result _ _
    (rest_open c.args.self.now.trace.now c.ready.new.self c.if-not-ready.ensures.readied.rests.same (question_open c.args.self.now.trace.now c.args.question c.requires.stands).0) c.step.ensures

pub returns-clause-keeps : goal.returns-clause-keeps
returns-clause-keeps g c = λ keeps. grown_keeps c.ready.new.self c.step.new.self _ c.step.ensures.grows (c.ready.ensures.keeps keeps)
