use Rattle.cb_hall.proofs.Replaying.{all_noted_once}
use Rattle.cb_hall.proofs.hall_laws.one_replay.Goals as goal

pub returns : goal.returns
returns c = all_noted_once
