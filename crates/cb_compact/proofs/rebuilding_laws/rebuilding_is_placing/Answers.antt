use Rattle.cb_compact.proofs.Settling.{completed_is, judged_is, rebuilt_is}
use Rattle.cb_compact.proofs.rebuilding_laws.rebuilding_is_placing.Goals as goal

pub returns-clause-judged : goal.returns-clause-judged
returns-clause-judged c = judged_is

pub returns-clause-rebuilt : goal.returns-clause-rebuilt
returns-clause-rebuilt c = rebuilt_is

pub returns-clause-completed : goal.returns-clause-completed
returns-clause-completed c = completed_is
