-- How many answers a verdict tells of.
use Rattle.std.proofs.Common.{◌≡◌, ◌∙◌, ℕ, List}
use Rattle.std.specs.List.{sum_by}
use Rattle.cb_hall.specs.Journal.{JournalState}
use Rattle.cb_audit.specs.Order.{AuditedTrace}
use Rattle.cb_control.specs.declared.verdict.Verdict.{Verdict}
use Rattle.cb_control.specs.declared.verdict.Verdict.TheVariants as verdicts
use Rattle.cb_driver.specs.Auditing.{CountsAll, TellsVerdict}

-- a yes tells of all answers that the traces count
pub counts_all : (hall : JournalState) (audited : List AuditedTrace) (all : ℕ) (verdict : Verdict) → TellsVerdict hall audited verdict → sum_by (λ (one : AuditedTrace). one.trace.total.told) audited ≡ all → CountsAll all verdict
counts_all hall audited all (verdicts.Yes answers dropped) told is = told.1.1.2.1.all ∙ is
counts_all hall audited all (verdicts.Count slot generation) told is = tt
counts_all hall audited all (verdicts.Differs slot generation place) told is = tt
counts_all hall audited all verdicts.OutOfOrder told is = tt
counts_all hall audited all verdicts.Memory told is = tt
