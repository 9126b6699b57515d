use Rattle.std.proofs.Common.{◌++◌}
use Rattle.cb_crew.specs.CrewModel.{opening_crew}
use Rattle.cb_crew.proofs.LineLaws.{taken_begins}
use Rattle.cb_crew.proofs.CrewLaws.{sound_run, run_goes_on, run_then}
use Rattle.cb_crew.proofs.crew_laws.items_in_order.Goals as goal

pub returns-clause-now : goal.returns-clause-now
returns-clause-now c = λ peers handlers capacity acts s r p. taken_begins ((sound_run peers handlers capacity acts s r).lines p)

pub returns-clause-later : goal.returns-clause-later
returns-clause-later c =
    λ peers handlers capacity acts more s t r q p.
    ((run_goes_on capacity more s t q p).1, taken_begins ((sound_run peers handlers capacity (acts ++ more) t (run_then capacity acts more (opening_crew peers handlers) s t r q)).lines p))
