use Rattle.cb_pool.proofs.Taking.{nothing_applies}
use Rattle.cb_state.proofs.state.Relay.with_seed.Goals as goal

pub invariant_of-result : goal.invariant_of-result
invariant_of-result c = λ u is. rw c.with_seed-2.ensures.list (nothing_applies u)
