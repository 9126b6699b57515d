use Rattle.cb_hall.proofs.Growing.{opened_by}
use Rattle.cb_hall.proofs.hall.Hall.open.Goals as goal

pub returns-clause-grows : goal.returns-clause-grows
returns-clause-grows c =
    opened_by c.args.self.now c.self.inside.journal c.note.new.self c.args.peer c.latest_generation-latest.result c.in_ok-note.field-0 c.self.view_is c.latest_generation-latest.ensures
    c.in_ok-note.ensures.ok
