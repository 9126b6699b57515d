use Rattle.cb_crew.proofs.DesksLaws.{each_once, at_most_one, weights}
use Rattle.cb_crew.proofs.CrewLaws.{sound_run}
use Rattle.cb_crew.proofs.crew_laws.each_desk_once.Goals as goal

pub returns-clause-once : goal.returns-clause-once
returns-clause-once c = λ peers handlers capacity acts s r. each_once (sound_run peers handlers capacity acts s r).desks

pub returns-clause-one_each : goal.returns-clause-one_each
returns-clause-one_each c = λ peers handlers capacity acts s r. at_most_one (sound_run peers handlers capacity acts s r).desks

pub returns-clause-weights : goal.returns-clause-weights
returns-clause-weights c = λ weight peers handlers capacity acts s r. weights weight (sound_run peers handlers capacity acts s r).desks
