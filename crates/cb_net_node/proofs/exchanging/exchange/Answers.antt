use Rattle.std.proofs.Common.{ap, sym, ◌∙◌}
use Rattle.cb_peer_state.specs.State.{is_closed}
use Rattle.cb_session.specs.Conversation.{beat_in, input_in}
use Rattle.cb_session.proofs.Accounts.{all_answered, asks_first, may_ask_on, not_both, open_question_is}
use Rattle.cb_net_node.specs.Talks.{moment}
use Rattle.cb_net_node.proofs.LinkResults.{on_err_of}
use Rattle.cb_net_node.proofs.Talking.{begun_into, begun_lost, breaks_on, sends_on}
use Rattle.cb_net_node.proofs.exchanging.exchange.Goals as goal

pub returns-in_err-next-clause-err : goal.returns-in_err-next-clause-err
returns-in_err-next-clause-err g c =
    on_err_of c.from_residual.result
    (begun_lost g.H.Oracle.told (record { none = g.met.H.Oracle.told_none; next = g.met.H.Oracle.told_then }) c.args.trace.now c.step_into.new.trace c.args.hall.now c.args.badge.now c.args.event c.requires.begins c.in_err-next.ensures.err)

pub loop-next-init : goal.loop-next-init
loop-next-init g c =
    record {
      pending = asks_first c.args.trace.now c.step_into.new.trace _ c.requires.free c.in_ok-next.ensures.ok.steps.stands;
      sends = begun_into g.H.Oracle.told (record { none = g.met.H.Oracle.told_none; next = g.met.H.Oracle.told_then }) c.args.trace.now c.step_into.new.trace c.args.hall.now c.args.badge.now c.args.event _ _ _ c.requires.begins c.in_ok-next.ensures.ok;
    }

pub answer_into-requires : goal.answer_into-requires
answer_into-requires g c =
    let going = ap is_closed (sym c.state.ensures) ∙ sym c.is_closed.ensures ∙ c.if-is_closed.false in
    record { stands = open_question_is c.loop-next.trace c.in-Some.question going (may_ask_on c.loop-next.trace _ c.loop-next.invariant.pending c.in-Some.question c.in-Some.is going) }

pub loop-next-preserved : goal.loop-next-preserved
loop-next-preserved g c =
    record {
      pending = c.in_ok-next-2.ensures.asks;
      sends =
          sends_on g.H.Oracle.told (record { none = g.met.H.Oracle.told_none; next = g.met.H.Oracle.told_then })
          (moment c.args.trace.now c.args.hall.now c.args.badge.now) (moment c.loop-next.trace c.loop-next.hall c.loop-next.badge) (moment c.answer_into.new.trace c.answer_into.new.hall c.answer_into.new.badge)
          (input_in c.args.event) (beat_in c.args.event) _ _ _ c.loop-next.invariant.sends c.in_ok-next-2.ensures.ok;
    }

pub loop-next-smaller : goal.loop-next-smaller
loop-next-smaller g c = c.in_ok-next-2.ensures.fewer

pub returns-in_err-next-2-clause-err : goal.returns-in_err-next-2-clause-err
returns-in_err-next-2-clause-err g c =
    on_err_of c.from_residual-in_err-next-2.result
    (breaks_on g.H.Oracle.told (record { none = g.met.H.Oracle.told_none; next = g.met.H.Oracle.told_then })
    (moment c.args.trace.now c.args.hall.now c.args.badge.now) (moment c.loop-next.trace c.loop-next.hall c.loop-next.badge) (moment c.answer_into.new.trace c.answer_into.new.hall c.answer_into.new.badge)
    (input_in c.args.event) (beat_in c.args.event) _ _ c.loop-next.invariant.sends c.in_err-next-2.ensures.err)

pub returns-then-is_closed-clause-answered : goal.returns-then-is_closed-clause-answered
returns-then-is_closed-clause-answered g c = λ going. not_both _ going (ap is_closed (sym c.state.ensures) ∙ sym c.is_closed.ensures ∙ c.if-is_closed.true)

pub returns-clause-answered : goal.returns-clause-answered
returns-clause-answered g c = all_answered c.loop-next.trace _ c.loop-next.invariant.pending c.in_default.is
