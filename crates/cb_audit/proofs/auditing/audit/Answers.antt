use Rattle.std.proofs.Common.{◌∙◌, ap}
use Rattle.cb_hall.specs.Replica.{ReplicaState}
use Rattle.cb_audit.proofs.CoveredAnswers.{covers_all}
use Rattle.cb_audit.proofs.auditing.audit.Goals as goal

pub returns-in-Ok-None : goal.returns-in-Ok-None
returns-in-Ok-None c =
    covers_all c.args.hall.now c.record-journal.result.now c.connections.result.now c.args.audited.now c.in-Ok-None.field-0 c.covered.result c.record-journal.ensures
    (c.connections.ensures.connections ∙ ap (λ (replica : ReplicaState). replica.connections) c.base.ensures) c.requires.order c.in_default.ensures.exact c.in-Ok-None.ensures.exact c.in-Ok-None.field-0-is
    c.covered.ensures.all c.covered.ensures.answers c.covered.ensures.dropped
