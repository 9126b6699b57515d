use Rattle.cb_crew.proofs.Seats.{ends_here}
use Rattle.cb_crew.proofs.reader.ReaderSeat.end.Goals as goal

pub invariant_of-result : goal.invariant_of-result
invariant_of-result g c = ends_here _ _ c.in-Ok.ensures.ok
