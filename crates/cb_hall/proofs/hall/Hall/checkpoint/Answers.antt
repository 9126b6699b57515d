use Rattle.cb_hall.proofs.Growing.{checked_by}
use Rattle.cb_hall.proofs.hall.Hall.checkpoint.Goals as goal

pub returns-clause-past : goal.returns-clause-past
returns-clause-past c = checked_by c.args.self.now c.self.inside.journal c.checkpoint.new.self c.checkpoint.result c.self.view_is c.checkpoint.ensures.ok
