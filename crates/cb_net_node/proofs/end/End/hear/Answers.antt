use Rattle.std.proofs.Common.{◌∷◌, refl, sym, inl, ap, ◌∙◌}
use Rattle.cb_net_node.specs.Ends.{with_hall}
use Rattle.cb_net_node.proofs.LinkResults.{on_err_of}
use Rattle.cb_net_node.proofs.Talking.{failed_heard, heard_as, missed, talks_none}
use Rattle.cb_net_node.proofs.end.End.hear.Goals as goal

pub unreachable-requires : goal.unreachable-requires
unreachable-requires g c = absurd (c.requires.some (c.in_default.ensures.none refl))

pub returns-in_err-item-clause-err : goal.returns-in_err-item-clause-err
returns-in_err-item-clause-err g c =
    on_err_of c.from_residual.result
    (missed g.H.Oracle.told c.args.self.now (record c.args.self.now { inbox = c.next.new.self }) c.args.hall.now c.args.hall.now c.in-Some.message c.in-Some.ensures.first
    (inl (record { sent = _; talks = talks_none g.H.Oracle.told (record { none = g.met.H.Oracle.told_none; next = g.met.H.Oracle.told_then }) c.args.self.now.trace c.args.hall.now c.args.self.now.badge })))

pub returns-in_err-give-clause-err : goal.returns-in_err-give-clause-err
returns-in_err-give-clause-err g c =
    on_err_of c.from_residual-in_err-give.result
    (missed g.H.Oracle.told c.args.self.now c.give.new.self c.args.hall.now c.give.new.hall c.in-Some.message (c.in-Some.ensures.first ∙ ap (λ l. c.in-Some.message ∷ l) (sym c.in_err-give.ensures.inbox))
    (failed_heard g.H.Oracle.told (with_hall c.args.self.now c.args.hall.now) (with_hall c.give.new.self c.give.new.hall) c.in_ok-item.item c.in-Some.message c.in_ok-item.ensures.same c.in_err-give.ensures.err))

pub returns-clause-ok : goal.returns-clause-ok
returns-clause-ok g c =
    record {
      message = c.in-Some.message;
      first = c.in-Some.ensures.first ∙ ap (λ l. c.in-Some.message ∷ l) (sym c.in_ok-give.ensures.inbox);
      sends = heard_as g.H.Oracle.told (with_hall c.args.self.now c.args.hall.now) (with_hall c.give.new.self c.give.new.hall) c.in_ok-item.item c.in-Some.message _ _ c.in_ok-item.ensures.same c.in_ok-give.ensures.ok.sends;
      answered = c.in_ok-give.ensures.ok.answered;
    }
