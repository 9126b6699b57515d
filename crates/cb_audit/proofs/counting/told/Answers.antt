use Rattle.std.proofs.Common.{◌∙◌, ap, sym}
use Rattle.cb_trace.specs.declared.trace.Counts.{Counts}
use Rattle.cb_trace.specs.Trace.{TraceView}
use Rattle.cb_audit.specs.Counting.{told_by}
use Rattle.cb_audit.proofs.Orders.{trace_read}
use Rattle.cb_audit.proofs.counting.told.Goals as goal

pub returns-in-Some : goal.returns-in-Some
returns-in-Some c =
    ap (λ (counts : Counts). counts.told) c.total.ensures
    ∙ ap (λ (trace : TraceView). trace.total.told) c.trace.ensures
    ∙ ap told_by (sym (trace_read c.args.audited.now c.args.connection c.in-Some.place c.index-audited-place.result c.requires.order c.in-Some.ensures.found c.index-audited-place.is))
