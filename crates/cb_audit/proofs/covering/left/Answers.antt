use Rattle.std.proofs.Common.{◌∙◌, ap}
use Rattle.cb_trace.specs.declared.trace.Counts.{Counts}
use Rattle.cb_trace.specs.Trace.{TraceView}
use Rattle.cb_audit.proofs.CoveredAnswers.{left_is, turns_told_by}
use Rattle.cb_audit.proofs.covering.left.Goals as goal

pub returns-clause-left : goal.returns-clause-left
returns-clause-left c =
    c.saturating_sub.ensures
    ∙ left_is c.args.kept.now c.args.one.now c.total.result.told c.dropped.result (turns_told_by c.args.one.now c.trace-trace.result.now c.entries.ensures.history.0 c.trace-trace.ensures c.entries.ensures.history.1)
    (ap (λ (n : Counts). n.told) c.total.ensures ∙ ap (λ (t : TraceView). t.total.told) c.trace-trace.ensures) c.dropped.ensures

pub returns-clause-all : goal.returns-clause-all
returns-clause-all c = turns_told_by c.args.one.now c.trace-trace.result.now c.entries.ensures.history.0 c.trace-trace.ensures c.entries.ensures.history.1
