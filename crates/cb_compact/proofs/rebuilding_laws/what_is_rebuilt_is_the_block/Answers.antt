use Rattle.cb_compact.proofs.Asked.{completed_one, rebuilt_one}
use Rattle.cb_compact.proofs.rebuilding_laws.what_is_rebuilt_is_the_block.Goals as goal

pub returns-clause-rebuilt : goal.returns-clause-rebuilt
returns-clause-rebuilt c = rebuilt_one

pub returns-clause-completed : goal.returns-clause-completed
returns-clause-completed c = completed_one
