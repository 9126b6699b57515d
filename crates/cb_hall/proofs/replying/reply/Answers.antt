use Rattle.cb_hall.proofs.Answering.{answers_tx}
use Rattle.cb_hall.proofs.replying.reply.Goals as goal

pub returns-in_ok-take_tx-in-GiveTx-clause-answers : goal.returns-in_ok-take_tx-in-GiveTx-clause-answers
returns-in_ok-take_tx-in-GiveTx-clause-answers c =
    answers_tx c.args.state.now c.take_tx.new.self c.args.connection c.args.question.now c.in-GiveTx.tx c.in_ok-clone-in-GiveTx.field-0 c.in_ok-take_tx-in-GiveTx.field-0 c.in-GiveTx.is
    c.in_ok-clone-in-GiveTx.ensures c.in_ok-take_tx-in-GiveTx.ensures.taken
