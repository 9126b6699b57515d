use Rattle.cb_crew.proofs.Moves.{forks}
use Rattle.cb_crew.proofs.taker.TakerSeat.note.Goals as goal

pub another-taking-requires-clause-rule : goal.another-taking-requires-clause-rule
another-taking-requires-clause-rule g c = forks _ _ _
