use Rattle.cb_net_node.proofs.LinkResults.{on_err_of}
use Rattle.cb_net_node.proofs.Talking.{steps_of}
use Rattle.cb_net_node.proofs.exchanging.step_into.Goals as goal

pub returns-in_err-send-clause-err : goal.returns-in_err-send-clause-err
returns-in_err-send-clause-err c = on_err_of c.from_residual.result (steps_of c.args.trace.now c.step-messages.new.self c.args.event _ _ c.step-messages.ensures)

pub returns-clause-ok : goal.returns-clause-ok
returns-clause-ok c = record { sent = _; behind = c.in_ok-send.ensures.ok; steps = c.step-messages.ensures }
