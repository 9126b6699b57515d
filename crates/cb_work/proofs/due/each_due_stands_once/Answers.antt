use Rattle.cb_work.proofs.Places.{stand_within, stands_once}
use Rattle.cb_work.proofs.due.each_due_stands_once.Goals as goal

pub returns-clause-once : goal.returns-clause-once
returns-clause-once c = λ tip before after told. stands_once tip before after told

pub returns-clause-within : goal.returns-clause-within
returns-clause-within c = λ tip all. stand_within tip all
