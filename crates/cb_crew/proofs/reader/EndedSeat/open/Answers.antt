use Rattle.std.proofs.Common.{refl}
use Rattle.cb_crew.proofs.Seats.{opens_here}
use Rattle.cb_crew.proofs.reader.EndedSeat.open.Goals as goal

pub invariant_of-result : goal.invariant_of-result
invariant_of-result g c = opens_here _ _ _ refl c.in-Ok.ensures.ok
