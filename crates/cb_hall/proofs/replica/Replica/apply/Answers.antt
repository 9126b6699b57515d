use Rattle.std.proofs.Common.{rules}
use Rattle.cb_hall.proofs.Leading.{step_counted}
use Rattle.cb_hall.proofs.replica.Replica.apply.Goals as goal

pub invariant_of-self-2 : goal.invariant_of-self-2
invariant_of-self-2 c = (
  search rules,
  step_counted c.self.inside.entries c.self.inside.state c.change.new.state c.self.inside.connections c.change.new.connections c.args.entry.now c.in_ok-told.told c.in_ok-told.ensures.ok
      c.self.invariant.1,
)
