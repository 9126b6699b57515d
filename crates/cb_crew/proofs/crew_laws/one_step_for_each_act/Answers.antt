use Rattle.cb_crew.proofs.CrewLaws.{step_from, step_enabled, step_one}
use Rattle.cb_crew.proofs.crew_laws.one_step_for_each_act.Goals as goal

pub returns-clause-leads : goal.returns-clause-leads
returns-clause-leads c = step_from

pub returns-clause-only_then : goal.returns-clause-only_then
returns-clause-only_then c = step_enabled

pub returns-clause-one : goal.returns-clause-one
returns-clause-one c = step_one
