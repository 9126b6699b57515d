use Rattle.cb_pool.proofs.Numbers.{numbered_last}
use Rattle.cb_pool.proofs.pool.Pool.insert_candidate.Goals as goal

pub invariant_of-self-2 : goal.invariant_of-self-2
invariant_of-self-2 c = (
  rw (c.push.ensures.list, c.in_ok-reserve.ensures.same, c.saturating_add-self-inside.ensures) (numbered_last c.self.inside.members.list c.args.candidate c.self.inside.next c.self.invariant.0),
  tt,
)
