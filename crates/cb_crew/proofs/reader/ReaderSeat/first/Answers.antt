use Rattle.cb_crew.proofs.Seats.{first_counts}
use Rattle.cb_crew.proofs.reader.ReaderSeat.first.Goals as goal

pub invariant_of-result : goal.invariant_of-result
invariant_of-result g c = first_counts _ c.requires
