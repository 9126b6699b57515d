use Rattle.cb_state.specs.State.{RelayState}
use Rattle.cb_state.proofs.state.Relay.value.Goals as goal

pub returns : goal.returns
returns c = rw (← c.self.view_is) (c.ledger.result.now.unspent, c.ledger.ensures, c.value.ensures)
