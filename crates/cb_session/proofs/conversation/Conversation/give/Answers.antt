use Rattle.std.proofs.Common.{false, ap}
use Rattle.cb_wire.specs.Stream.{texts}
use Rattle.cb_session.proofs.Accounts.{accounts_ran, gave_none, ran_closed}
use Rattle.cb_session.proofs.Standing.{left_none, settled_stands, stands_gave, stands_ready}
use Rattle.cb_session.proofs.conversation.Conversation.give.Goals as goal

pub returns-then-not-ready-clause-gave : goal.returns-then-not-ready-clause-gave
returns-then-not-ready-clause-gave g c =
    λ from inputs s.
    gave_none g.H.Oracle.told g.H.Oracle.refused from _ inputs s.sent.missing c.args.event
    (accounts_ran g.H.Oracle.told g.H.Oracle.refused (record { none = g.met.H.Oracle.told_none; next = g.met.H.Oracle.told_then; stays = g.met.H.Oracle.full_stays }) from c.args.self.now.trace.now c.ready.new.self c.args.self.now.hall.now c.args.self.now.badge.now _ _ _ inputs s.sent.missing s.sent.lost false c.requires.going c.if-not-ready.ensures.readied s.sent.accounts).accounts
    (ran_closed c.args.self.now.trace.now c.ready.new.self c.if-not-ready.ensures.readied)

pub returns-clause-gave : goal.returns-clause-gave
returns-clause-gave g c =
    λ from inputs s.
    stands_gave g.H.Oracle.told g.H.Oracle.refused from _ inputs _ c.args.event c.requires.input (ap texts (left_none _ _ c.begin-none.ensures.back c.new.ensures.items))
    (c.begin-none.ensures.stands from inputs
    (stands_ready g.H.Oracle.told g.H.Oracle.refused from c.args.self.now.trace.now c.ready.new.self c.args.self.now.hall.now c.args.self.now.badge.now _ _ _ inputs _ c.requires.going c.if-not-ready.ensures.readied
    (settled_stands g.H.Oracle.told g.H.Oracle.refused from _ inputs _ false (ap texts c.new.ensures.items) s)))
