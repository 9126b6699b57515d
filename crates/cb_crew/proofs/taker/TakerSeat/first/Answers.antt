use Rattle.cb_crew.proofs.Seats.{first_seat}
use Rattle.cb_crew.proofs.taker.TakerSeat.first.Goals as goal

pub invariant_of-result : goal.invariant_of-result
invariant_of-result g c = first_seat _ _ _ c.requires
