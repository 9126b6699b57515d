use Rattle.std.proofs.Common.{Some, subst, sym}
use Rattle.cb_hall.specs.Journal.{JournalState}
use Rattle.cb_net_node.specs.Nodes.{TakesSome}
use Rattle.cb_net_node.proofs.Passing.{on_err_of}
use Rattle.cb_net_node.proofs.Taking.{took_first, took_whole}
use Rattle.cb_net_node.proofs.node.take_all.Goals as goal

pub returns-in_err-clone-clause-err : goal.returns-in_err-clone-clause-err
returns-in_err-clone-clause-err c = on_err_of c.from_residual.result (took_first c.args.hall.now c.loop-tx.hall c.args.txs.now c.loop-tx.tx-index c.loop-tx.invariant)

pub returns-in_err-_answer-clause-err : goal.returns-in_err-_answer-clause-err
returns-in_err-_answer-clause-err c =
    on_err_of c.from_residual-in_err-_answer.result
    (subst (λ (hall : JournalState). TakesSome c.args.txs.now (Some c.args.hall.now) (Some hall)) (sym c.in_err-_answer.ensures.err)
    (took_first c.args.hall.now c.loop-tx.hall c.args.txs.now c.loop-tx.tx-index c.loop-tx.invariant))

pub returns-clause-ok : goal.returns-clause-ok
returns-clause-ok c = took_whole c.args.hall.now c.loop-tx.hall c.args.txs.now c.loop-tx.tx-index c.loop-tx-test.false c.loop-tx.auto.tx-index-end c.loop-tx.invariant
