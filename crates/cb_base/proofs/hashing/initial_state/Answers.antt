use Rattle.std.proofs.Common.{refl}
use Rattle.cb_base.proofs.LaneLemmas.{below_four}
use Rattle.cb_base.proofs.hashing.initial_state.Goals as goal

pub returns : goal.returns
returns c = below_four _ refl refl refl refl
