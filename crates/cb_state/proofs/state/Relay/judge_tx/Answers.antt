use Rattle.cb_state.specs.State.{RelayState}
use Rattle.cb_state.proofs.Takings.{tx_judged, tx_judged_alone}
use Rattle.cb_state.proofs.state.Relay.judge_tx.Goals as goal

pub returns-in-Ok-clause-judged : goal.returns-in-Ok-clause-judged
returns-in-Ok-clause-judged c =
    let state : RelayState = record { tree = c.self.inside.chain; pool = c.self.inside.pool; announcers = c.self.inside.announcers } in
    rw (← c.self.view_is) (tx_judged state c.args.tx c.in-Ok.candidate c.ledger-ledger.result.now.unspent c.refusal.result c.ledger-ledger.ensures c.in-Ok.ensures.same c.refusal.ensures)

pub returns-in-Err-clause-judged : goal.returns-in-Err-clause-judged
returns-in-Err-clause-judged c =
    let state : RelayState = record { tree = c.self.inside.chain; pool = c.self.inside.pool; announcers = c.self.inside.announcers } in
    rw (← c.self.view_is) (tx_judged_alone state c.args.tx c.in-Err.fault c.ledger-ledger.result.now.unspent c.told.result c.ledger-ledger.ensures c.in-Err.ensures.exact c.told.ensures.ok)
