use Rattle.std.proofs.Common.{refl}
use Rattle.cb_crew.proofs.CrewLaws.{sound_run, line_runs, one_line, desks_run, idle_crew}
use Rattle.cb_crew.proofs.crew_laws.reached_as_data.Goals as goal

pub returns-clause-lines : goal.returns-clause-lines
returns-clause-lines c = λ peers handlers capacity acts s r. (sound_run peers handlers capacity acts s r).lines

pub returns-clause-desks : goal.returns-clause-desks
returns-clause-desks c = λ peers handlers capacity acts s r. (sound_run peers handlers capacity acts s r).desks

pub returns-clause-line_runs : goal.returns-clause-line_runs
returns-clause-line_runs c = λ capacity l reached fits. let run = line_runs capacity l reached fits in (run.0, one_line l, run.1, refl)

pub returns-clause-desks_run : goal.returns-clause-desks_run
returns-clause-desks_run c = λ peers handlers capacity d reached. let run = desks_run peers handlers capacity d reached in (run.0, idle_crew peers d, run.1, refl)
