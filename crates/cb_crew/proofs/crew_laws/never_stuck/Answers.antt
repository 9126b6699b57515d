use Rattle.cb_crew.proofs.CrewLaws.{sound_run, not_stuck, takes_all}
use Rattle.cb_crew.proofs.crew_laws.never_stuck.Goals as goal

pub returns-clause-some : goal.returns-clause-some
returns-clause-some c = λ peers handlers capacity acts s some_peer some_handler r. not_stuck peers handlers capacity s (sound_run peers handlers capacity acts s r) some_peer some_handler

pub returns-clause-takes : goal.returns-clause-takes
returns-clause-takes c = λ peers handlers capacity acts s r. takes_all peers handlers capacity s (sound_run peers handlers capacity acts s r)
