use Rattle.cb_crew.proofs.CrewLaws.{run_goes_on}
use Rattle.cb_crew.proofs.crew_laws.taken_only_grows.Goals as goal

pub returns-clause-queued : goal.returns-clause-queued
returns-clause-queued c = λ capacity acts s t r p. (run_goes_on capacity acts s t r p).0

pub returns-clause-taken : goal.returns-clause-taken
returns-clause-taken c = λ capacity acts s t r p. (run_goes_on capacity acts s t r p).1
