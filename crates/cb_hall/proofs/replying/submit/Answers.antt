use Rattle.cb_hall.proofs.Answering.{submits_tx}
use Rattle.cb_hall.proofs.replying.submit.Goals as goal

pub returns-in_ok-take_tx-in-Tx-clause-answers : goal.returns-in_ok-take_tx-in-Tx-clause-answers
returns-in_ok-take_tx-in-Tx-clause-answers c =
    submits_tx c.args.state.now c.take_tx.new.self c.args.local.now c.in-Tx.tx c.in_ok-clone-in-Tx.field-0 c.in_ok-take_tx-in-Tx.field-0 c.in-Tx.is c.in_ok-clone-in-Tx.ensures
    c.in_ok-take_tx-in-Tx.ensures.taken
