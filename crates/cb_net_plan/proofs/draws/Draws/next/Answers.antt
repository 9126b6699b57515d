use Rattle.std.proofs.Common.{refl}
use Rattle.cb_net_plan.specs.Draws.{after, first_number}
use Rattle.cb_net_plan.proofs.draws.Draws.next.Goals as goal

pub returns-clause-number : goal.returns-clause-number
unfolding first_number after
returns-clause-number c = c.mix.ensures

pub returns-clause-after : goal.returns-clause-after
unfolding after
returns-clause-after c = refl
