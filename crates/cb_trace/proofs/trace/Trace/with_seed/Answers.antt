use Rattle.std.proofs.Common.{List, [], refl, sym, ap, subst, ◌∙◌, arith, ◌-◌, vec_len}
use Rattle.std.specs.Prelude.{vec_capacity}
use Rattle.cb_trace.specs.declared.trace.TraceEntry.{TraceEntry}
use Rattle.cb_trace.specs.Trace.{IsTrace, StandsFor, held_of}
use Rattle.cb_trace.proofs.Keeping.{new_keeps}
use Rattle.cb_trace.proofs.Traces.{stands_first, trace_first, view}
use Rattle.cb_trace.proofs.trace.Trace.with_seed.Goals as goal

pub invariant_of-trace : goal.invariant_of-trace
invariant_of-trace c =
    let none = c.in_ok-entries.ensures.items in (
      subst (λ (es : List TraceEntry). IsTrace (view c.args.settings c.in_ok-base.base _ es c.in_ok-session.session _ (vec_capacity c.in_ok-entries.entries - vec_len c.in_ok-entries.entries))) (sym none)
          (trace_first c.args.settings c.in_ok-base.base c.in_ok-session.session _ _ (c.in_ok-base.ensures.equal ∙ c.in_ok-session.ensures.session) c.in_ok-session.ensures.session refl
          (let exact = c.in_ok-entries.ensures.exact in let len = c.in_ok-entries.ensures.len in omega (arith, exact, len))),
      (let zero = ap held_of none in omega (arith, zero)),
    )

pub returns-clause-history : goal.returns-clause-history
returns-clause-history c =
    subst (λ (es : List TraceEntry). StandsFor (view c.args.settings c.in_ok-base.base _ es c.in_ok-session.session _ (vec_capacity c.in_ok-entries.entries - vec_len c.in_ok-entries.entries)) []) (sym c.in_ok-entries.ensures.items)
    (stands_first c.args.settings c.in_ok-base.base c.in_ok-session.session _ _ (c.in_ok-base.ensures.equal ∙ c.in_ok-session.ensures.session) c.in_ok-session.ensures.session refl)

pub returns-clause-keeps : goal.returns-clause-keeps
returns-clause-keeps c = new_keeps _ (returns-clause-history c)
