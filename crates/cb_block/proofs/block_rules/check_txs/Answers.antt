use Rattle.std.proofs.Common.{subst, arith, All}
use Rattle.std.proofs.lemmas.List.{take_all}
use Rattle.std.proofs.lemmas.List.Elements.{All-more}
use Rattle.cb_block.specs.TxRules.{MeetsRules}
use Rattle.cb_block.proofs.block_rules.check_txs.Goals as goal

pub loop-tx-preserved : goal.loop-tx-preserved
loop-tx-preserved c =
    All-more MeetsRules c.args.txs.now c.loop-tx.tx-index c.tx-item.result c.loop-tx-test.true c.loop-tx.invariant (rw (← c.tx-item.is) (subst MeetsRules c.deref.ensures c.in_ok-check_tx.ensures.exact))

pub returns-clause-exact : goal.returns-clause-exact
returns-clause-exact c = subst (All MeetsRules) (take_all c.loop-tx.tx-index c.args.txs.now (omega arith)) c.loop-tx.invariant
