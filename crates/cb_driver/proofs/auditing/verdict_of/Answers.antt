use Rattle.std.proofs.Common.{◌≡◌, List, subst, sym}
use Rattle.std.specs.List.{sum_by}
use Rattle.cb_audit.specs.Desks.{badge_count}
use Rattle.cb_audit.specs.Order.{AuditedTrace}
use Rattle.cb_driver.proofs.Counts.{counts_all}
use Rattle.cb_driver.proofs.auditing.verdict_of.Goals as goal

pub returns-in-Ok-clause-counted : goal.returns-in-Ok-clause-counted
returns-in-Ok-clause-counted g c =
    counts_all c.args.hall.now c.as_slice.result.now (badge_count c.args.desks.now) c.audit_all.result c.audit_all.ensures.told
    (subst (λ (audited : List AuditedTrace). sum_by (λ (one : AuditedTrace). one.trace.total.told) audited ≡ badge_count c.args.desks.now) (sym c.as_slice.ensures.value) c.in-Ok.ensures.counted)
