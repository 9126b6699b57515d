use Rattle.cb_state.specs.State.{RelayState}
use Rattle.cb_state.proofs.Takings.{heads_taken, waits_on}
use Rattle.cb_state.proofs.state.Relay.take_headers.Goals as goal

pub invariant_of-self-2 : goal.invariant_of-self-2
invariant_of-self-2 c = waits_on c.self.inside.chain c.accept_headers.new.self c.self.inside.pool c.self.invariant c.accept_headers.ensures.stays

pub returns-clause-taken : goal.returns-clause-taken
returns-clause-taken c =
    let old : RelayState = record { tree = c.self.inside.chain; pool = c.self.inside.pool; announcers = c.self.inside.announcers } in
    rw (← c.self.view_is)
    (heads_taken old c.accept_headers.new.self c.args.headers.now (record { refused = c.in_ok-accepted.accepted.refused; lack = c.lacking.result; locator = c.told_locator.result }) c.in_ok-accepted.accepted.met c.in_ok-locator.locator
    c.in_ok-accepted.ensures.ok c.accept_headers.ensures.stays c.in_ok-locator.ensures.exact c.lacking.ensures c.told_locator.ensures)
