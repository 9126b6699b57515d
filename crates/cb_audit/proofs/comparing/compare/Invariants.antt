use Rattle.std.proofs.Common.{drop}
use Rattle.cb_audit.proofs.Journals.{IsSoFar}
use Rattle.cb_audit.proofs.comparing.compare.Given as goal

abbrev pub invariant-loop-entry : goal.invariant-loop-entry
invariant-loop-entry l = IsSoFar l.journal.base.connections l.audited l.journal.base l.journal.entries (drop l.entry-index l.entry-items) l.replica l.journal.latest l.heard.places.items l.heard.stranger
