use Rattle.cb_crew.proofs.CrewLaws.{within_run}
use Rattle.cb_crew.proofs.crew_laws.inboxes_within_capacity.Goals as goal

pub returns : goal.returns
returns c = within_run
