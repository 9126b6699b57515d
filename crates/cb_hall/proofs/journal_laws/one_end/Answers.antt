use Rattle.cb_hall.proofs.Once.{one_end}
use Rattle.cb_hall.proofs.journal_laws.one_end.Goals as goal

pub returns : goal.returns
returns c = one_end
