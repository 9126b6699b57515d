use Rattle.cb_crew.proofs.Moves.{pops, told}
use Rattle.cb_crew.proofs.Seats.{found_none}
use Rattle.cb_crew.proofs.taker.TakerSeat.take.Goals as goal

pub pop_as-requires-clause-rule : goal.pop_as-requires-clause-rule
pop_as-requires-clause-rule g c = (pops _ _ _ c.self.invariant.takes_is, told _ _ _ c.self.invariant.takes_is)

pub returns-clause-none : goal.returns-clause-none
returns-clause-none g c = found_none _ _ c.self.inside.pass c.pop_as.new.pass _ c.self.view_is c.pop_as.ensures.queue c.pop_as.ensures.rule
