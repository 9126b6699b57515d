use Rattle.cb_hall.proofs.Rewarded.{are_apart, are_few}
use Rattle.cb_hall.proofs.hall_laws.few_announcers.Goals as goal

pub returns : goal.returns
returns c = record { few = are_few; apart = are_apart }
