use Rattle.cb_hall.proofs.Kicks.{for_a_reason, let_in, turned_away}
use Rattle.cb_hall.proofs.hall_laws.who_was_kicked.Goals as goal

pub returns : goal.returns
returns c = record { turned_away = turned_away; let_in = let_in; for_a_reason = for_a_reason }
