use Rattle.std.proofs.Common.{refl, ap, ◌∙◌, arith}
use Rattle.cb_peer_state.specs.State.{is_closed}
use Rattle.cb_trace.specs.Trace.{TraceView, held_of}
use Rattle.cb_trace.proofs.Traces.{copies, trace_shed}
use Rattle.cb_trace.proofs.trace.Trace.drop_entries.Goals as goal

pub unreachable-requires : goal.unreachable-requires
unreachable-requires c =
    copies _ c.self.inside.session c.copy.result c.in_default.field-0 refl c.self.invariant.0 (ap (λ (trace : TraceView). is_closed trace.session.state) c.self.view_is ∙ c.requires) c.in_default.is c.copy.ensures.unpaid

pub invariant_of-self : goal.invariant_of-self
invariant_of-self c =
    let none = c.new.ensures.items in (
      trace_shed c.self.inside.settings c.self.inside.base c.in-Ok.last c.self.inside.before c.self.inside.entries.items c.new.result.items c.self.inside.session c.self.inside.total _ _ c.in-Ok.ensures.equal none
          (ap (λ (trace : TraceView). is_closed trace.session.state) c.self.view_is ∙ c.requires) c.self.invariant.0,
      (let zero = ap held_of none in omega (arith, zero)),
    )
