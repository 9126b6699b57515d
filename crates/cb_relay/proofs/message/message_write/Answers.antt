use Rattle.cb_relay.specs.Messages.{IsToldUnpaid}
use Rattle.cb_relay.specs.declared.message.NoMessage.TheVariants.{Bad}
use Rattle.cb_relay.proofs.Judging.{passed_by, passed_on}
use Rattle.cb_relay.proofs.message.message_write.Goals as goal

pub returns-in-Ok-clause-unpaid : goal.returns-in-Ok-clause-unpaid
returns-in-Ok-clause-unpaid c = passed_by (IsToldUnpaid c.args.name.now c.args.payload.now) (λ fault. Bad fault) _ _ c.in-Ok.ensures.unpaid

pub returns-in-Err-clause-unpaid : goal.returns-in-Err-clause-unpaid
returns-in-Err-clause-unpaid c = passed_on (IsToldUnpaid c.args.name.now c.args.payload.now) (λ fault. Bad fault) c.in-Err.why c.in-Err.ensures.unpaid
