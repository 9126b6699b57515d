use Rattle.cb_hall.proofs.Once.{one_step}
use Rattle.cb_hall.proofs.journal_laws.one_step.Goals as goal

pub returns : goal.returns
returns c = one_step
