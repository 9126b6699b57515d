use Rattle.cb_state.specs.State.{RelayState}
use Rattle.cb_state.proofs.Takings.{tx_refused, tx_taken}
use Rattle.cb_state.proofs.state.Relay.take_tx.Goals as goal

pub returns-in-Err-clause-taken : goal.returns-in-Err-clause-taken
returns-in-Err-clause-taken c =
    let old : RelayState = record { tree = c.self.inside.chain; pool = c.self.inside.pool; announcers = c.self.inside.announcers } in
    rw (← c.self.view_is) (tx_refused old c.args.tx c.insert.new.self c.in-Err.fault c.ledger.result.now.unspent c.told.result c.ledger.ensures c.in-Err.ensures.exact.0 c.in-Err.ensures.exact.1 c.told.ensures.ok)

pub returns-clause-taken : goal.returns-clause-taken
returns-clause-taken c =
    let old : RelayState = record { tree = c.self.inside.chain; pool = c.self.inside.pool; announcers = c.self.inside.announcers } in
    rw (← c.self.view_is) (tx_taken old c.args.tx c.insert.new.self c.ledger.result.now.unspent c.ledger.ensures c.in_default.ensures.exact.0 c.in_default.ensures.exact.2)
