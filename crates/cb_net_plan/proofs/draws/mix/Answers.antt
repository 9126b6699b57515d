use Rattle.std.proofs.Common.{refl}
use Rattle.cb_net_plan.specs.Draws.{mixed}
use Rattle.cb_net_plan.proofs.draws.mix.Goals as goal

pub returns : goal.returns
unfolding mixed
returns c = refl
