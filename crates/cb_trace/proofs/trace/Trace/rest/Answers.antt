use Rattle.std.proofs.Common.{◌≡◌, true, sym, ap, ◌∙◌}
use Rattle.cb_trace.specs.Trace.{TraceView, is_due}
use Rattle.cb_trace.proofs.Traces.{needs_base}
use Rattle.cb_trace.proofs.trace.Trace.rest.Goals as goal

pub returns-in_default-clause-needs : goal.returns-in_default-clause-needs
returns-in_default-clause-needs c =
    let due : is_due c.args.self.now ≡ true = sym c.is_due.ensures ∙ c.if-not-is_due.false in
    λ _. needs_base c.args.self.now c.self.inside.session c.copy.result c.in_default.field-0 (ap (λ (trace : TraceView). trace.session) c.self.view_is) due c.in_default.is c.copy.ensures.unpaid
