use Rattle.cb_hall.proofs.Growing.{history_by}
use Rattle.cb_hall.proofs.hall.Hall.journal.Goals as goal

pub returns-clause-past : goal.returns-clause-past
returns-clause-past c = history_by c.args.self.now c.self.inside.journal c.self.view_is c.entries.ensures.past
