use Rattle.cb_crew.proofs.Moves.{forks}
use Rattle.cb_crew.proofs.reader.Queueing.note.Goals as goal

pub another-requires-clause-rule : goal.another-requires-clause-rule
another-requires-clause-rule g c = forks _ _ _
