use Rattle.std.proofs.Common.{refl}
use Rattle.cb_crew.proofs.Seats.{lives_on}
use Rattle.cb_crew.proofs.reader.ReaderSeat.put.Goals as goal

pub invariant_of-self : goal.invariant_of-self
invariant_of-self g c = lives_on _ _ _ _ _ c.self.invariant refl c.queue.ensures.ok c.queue.ensures.full
