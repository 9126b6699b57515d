use Rattle.cb_hall.proofs.Growing.{submitted_by}
use Rattle.cb_hall.proofs.hall.Hall.submit.Goals as goal

pub returns-clause-ok : goal.returns-clause-ok
returns-clause-ok c =
    submitted_by c.args.self.now c.self.inside.journal c.note.new.self c.args.local c.in_ok-answer.field-0 c.in-Some.answer c.self.view_is c.in-Some.is c.in_ok-answer.ensures.ok
