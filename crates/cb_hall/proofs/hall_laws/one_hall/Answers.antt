use Rattle.cb_hall.proofs.Growing.{history_leads, one_history}
use Rattle.cb_hall.proofs.hall_laws.one_hall.Goals as goal

pub returns : goal.returns
returns c = record { leads = history_leads; one = one_history }
