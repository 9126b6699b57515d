use Rattle.cb_hall.proofs.Kicks.{counts}
use Rattle.cb_hall.proofs.hall_laws.each_question_is_counted.Goals as goal

pub returns : goal.returns
returns c = counts
