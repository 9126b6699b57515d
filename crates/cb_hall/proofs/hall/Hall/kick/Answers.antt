use Rattle.cb_hall.proofs.Growing.{kick_by}
use Rattle.cb_hall.proofs.hall.Hall.kick.Goals as goal

pub returns-clause-ok : goal.returns-clause-ok
returns-clause-ok c =
    kick_by c.args.self.now c.self.inside.journal c.note.new.self c.args.peer c.latest_generation-generation.result c.in_ok-note.field-0 c.self.view_is c.latest_generation-generation.ensures
    c.in_ok-note.ensures.ok
