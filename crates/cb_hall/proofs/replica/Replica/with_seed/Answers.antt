use Rattle.std.proofs.Common.{rules, subst, sym}
use Rattle.cb_hall.specs.Connections.{AreCounted}
use Rattle.cb_hall.proofs.Slots.{first_counted}
use Rattle.cb_hall.proofs.replica.Replica.with_seed.Goals as goal

pub invariant_of-result : goal.invariant_of-result
invariant_of-result c = (search rules, subst (AreCounted 0) (sym c.in_ok-new.ensures.first) first_counted)
