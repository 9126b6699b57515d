use Rattle.cb_hall.proofs.Held.{counts_alike}
use Rattle.cb_hall.proofs.hall_laws.each_badge_counts_its_questions.Goals as goal

pub returns : goal.returns
returns c = counts_alike
