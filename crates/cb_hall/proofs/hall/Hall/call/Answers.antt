use Rattle.cb_hall.proofs.Growing.{grants_by}
use Rattle.cb_hall.proofs.hall.Hall.call.Goals as goal

pub returns-clause-ok : goal.returns-clause-ok
returns-clause-ok c =
    grants_by c.args.self.now c.self.inside.journal c.note.new.self c.args.badge.now c.grant.new.self c.connection.result c.args.question c.in_ok-answer.field-0 c.in-Some.answer c.self.view_is
    c.connection.ensures c.in-Some.is c.in_ok-answer.ensures.ok c.grant.ensures
