use Rattle.std.proofs.Common.{◌≡◌, ◌∙◌, List, subst, sym}
use Rattle.std.specs.List.{sum_by}
use Rattle.cb_audit.specs.Audit.{Audits}
use Rattle.cb_audit.specs.Desks.{badge_count, traces_of}
use Rattle.cb_audit.specs.Order.{AreInOrder, AuditedTrace}
use Rattle.cb_audit.proofs.CoveredAnswers.{counts_badges}
use Rattle.cb_audit.proofs.desks.audit_desks.Goals as goal

pub audit-requires : goal.audit-requires
audit-requires g c = record { order = subst AreInOrder (sym (c.as_slice.ensures.value ∙ c.in-Ok.ensures.all)) c.requires.order }

pub returns-in-Ok-clause-audits : goal.returns-in-Ok-clause-audits
returns-in-Ok-clause-audits g c = subst (λ (audited : List AuditedTrace). Audits c.args.hall.now audited c.audit.result) (c.as_slice.ensures.value ∙ c.in-Ok.ensures.all) c.audit.ensures

pub returns-in-Ok-clause-counted : goal.returns-in-Ok-clause-counted
returns-in-Ok-clause-counted g c =
    counts_badges c.args.hall.now (traces_of c.args.desks.now) (badge_count c.args.desks.now) c.audit.result
    (subst (λ (audited : List AuditedTrace). Audits c.args.hall.now audited c.audit.result) (c.as_slice.ensures.value ∙ c.in-Ok.ensures.all) c.audit.ensures)
    (subst (λ (audited : List AuditedTrace). sum_by (λ (one : AuditedTrace). one.trace.total.told) audited ≡ badge_count c.args.desks.now) c.in-Ok.ensures.all c.in-Ok.ensures.counted)
