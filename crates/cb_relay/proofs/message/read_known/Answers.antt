use Rattle.std.proofs.Common.{Some, subst, sym}
use Rattle.cb_wire.specs.Grammar.{IsUnpaid}
use Rattle.cb_relay.proofs.Judging.{known_fine, known_wrong, passed_by, passed_on}
use Rattle.cb_relay.proofs.message.read_known.Goals as goal

pub returns-in-Ok-clause-exact : goal.returns-in-Ok-clause-exact
returns-in-Ok-clause-exact c = known_fine c.args.name.now c.args.payload.now c.args.command _ c.requires.known c.in-Ok.ensures.exact

pub returns-in-Ok-clause-unpaid : goal.returns-in-Ok-clause-unpaid
returns-in-Ok-clause-unpaid c = passed_by (IsUnpaid (Some c.args.command) c.args.payload.now) (λ fault. fault) _ _ (λ fault is. c.in-Ok.ensures.unpaid fault (subst (λ it. IsUnpaid it c.args.payload.now fault) (sym c.requires.known) is))

pub returns-in-Err-clause-exact : goal.returns-in-Err-clause-exact
returns-in-Err-clause-exact c = known_wrong c.args.name.now c.args.payload.now c.args.command c.in-Err.fault c.requires.known c.in-Err.ensures.exact

pub returns-in-Err-clause-unpaid : goal.returns-in-Err-clause-unpaid
returns-in-Err-clause-unpaid c = passed_on (IsUnpaid (Some c.args.command) c.args.payload.now) (λ fault. fault) c.in-Err.fault (λ fault is. c.in-Err.ensures.unpaid fault (subst (λ it. IsUnpaid it c.args.payload.now fault) (sym c.requires.known) is))
