use Rattle.cb_crew.proofs.Moves.{merges, sights}
use Rattle.cb_crew.proofs.taker.TakerSeat.learn.Goals as goal

pub absorb-requires-clause-rule : goal.absorb-requires-clause-rule
absorb-requires-clause-rule g c = merges _ _ _ _ _

pub learn_as-requires-clause-rule : goal.learn_as-requires-clause-rule
learn_as-requires-clause-rule g c = sights _ _ _
