use Rattle.std.proofs.Common.{refl, inl, inr}
use Rattle.std.proofs.lemmas.Result.{on_err_weaker}
use Rattle.cb_session.proofs.Accounts.{ran_closed, rest_open}
use Rattle.cb_net_node.proofs.LinkResults.{on_ok_two}
use Rattle.cb_net_node.proofs.Talking.{breaks_ran, breaks_rested, pending_rested, sends_rested}
use Rattle.cb_net_node.proofs.end.End.give.Goals as goal

pub returns-then-not-ready-clause-err : goal.returns-then-not-ready-clause-err
returns-then-not-ready-clause-err g c =
    inl (
      breaks_ran g.H.Oracle.told (record { none = g.met.H.Oracle.told_none; next = g.met.H.Oracle.told_then }) c.args.self.now.trace c.ready.new.self c.args.hall.now c.args.self.now.badge c.if-not-ready.ensures.readied,
      ran_closed c.args.self.now.trace c.ready.new.self c.if-not-ready.ensures.readied,
    )

pub exchange-requires : goal.exchange-requires
exchange-requires g c =
    record {
      going = rest_open c.args.self.now.trace c.ready.new.self c.if-not-ready.ensures.readied.rests.same c.requires.going;
      room = c.if-not-ready.ensures.readied.room;
      free = pending_rested c.args.self.now.trace c.ready.new.self c.if-not-ready.ensures.readied.rests.same (c.requires.free c.requires.going);
      begins = c.requires.begins;
    }

pub returns-clause-ok : goal.returns-clause-ok
returns-clause-ok g c =
    on_ok_two c.exchange.result
    (λ s answered.
    record {
      sends = sends_rested g.H.Oracle.told (record { none = g.met.H.Oracle.told_none; next = g.met.H.Oracle.told_then }) c.args.self.now.trace c.ready.new.self c.exchange.new.trace c.args.hall.now c.exchange.new.hall c.args.self.now.badge c.exchange.new.badge _ _ _ _ c.if-not-ready.ensures.readied.rests.same s;
      answered = answered;
      inbox = refl;
    })
    c.exchange.ensures.ok c.exchange.ensures.answered

pub returns-clause-err : goal.returns-clause-err
returns-clause-err g c =
    on_err_weaker c.exchange.result
    (λ b. inr (breaks_rested g.H.Oracle.told (record { none = g.met.H.Oracle.told_none; next = g.met.H.Oracle.told_then }) c.args.self.now.trace c.ready.new.self c.exchange.new.trace c.args.hall.now c.exchange.new.hall c.args.self.now.badge c.exchange.new.badge _ _ c.if-not-ready.ensures.readied.rests.same b))
    c.exchange.ensures.err
