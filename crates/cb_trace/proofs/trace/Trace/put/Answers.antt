use Rattle.std.proofs.Common.{◌≡◌, ◌≤◌, ◌-◌, [], true, false, None, IfOk, IsOk, OnErr, subst, sym, refl, ◌∙◌, arith, vec_len}
use Rattle.std.specs.Prelude.{vec_capacity, Result, Ok, Err}
use Rattle.std.specs.Result.{is_err}
use Rattle.cb_peer_state.specs.Outcomes.{Answers}
use Rattle.cb_peer_state.specs.State.{is_closed}
use Rattle.cb_trace.specs.Fold.{entry_step}
use Rattle.cb_trace.specs.Trace.{IsOpen, TraceView}
use Rattle.cb_trace.proofs.Traces.{Puts, are_counts, held_more, trace_more, trace_steps}
use Rattle.cb_trace.proofs.trace.Trace.put.Goals as goal
use Rattle.cb_trace.proofs.trace.Trace.put.Goals.{in-Ok, in-Err}

pub with-self-inside-requires : goal.with-self-inside-requires
with-self-inside-requires c =
    let going : is_closed c.self.inside.session.state ≡ false = subst (λ (v : TraceView). IsOpen v) (sym c.self.view_is) c.requires.going in
    are_counts _ c.self.invariant.0.history c.self.invariant.0.stands (c.self.invariant.0.limit going)

-- what went well is no error
well : {X F : Type 0} (r : Result X F) → IsOk r → is_err r ≡ false
well (Ok x) h = refl
well (Err f) h = absurd (let e : false ≡ true = h in cc)

-- what was put, in the places of the trace
puts : (c : goal.Joined-heard) → Puts c.self.inside.base c.self.inside.settings c.self.inside.before c.self.inside.entries.items c.push_reserved.new.self.items c.self.inside.session c.hear-heard.new.session c.self.inside.total c.with-self-inside.result
    (vec_capacity c.self.inside.entries - vec_len c.self.inside.entries) (vec_capacity c.push_reserved.new.self - vec_len c.push_reserved.new.self)
    (record { event = c.args.event; starved = c.is_err-starved.result }) c.match-heard.result.0.items c.match-heard.result.1
puts c =
    let going : is_closed c.self.inside.session.state ≡ false = subst (λ (v : TraceView). IsOpen v) (sym c.self.view_is) c.requires.going in
    let spare = c.self.invariant.0.spare going in
    let same = c.push_reserved.ensures.capacity in
    let longer = c.push_reserved.ensures.len in
    record {
      trace = c.self.invariant.0;
      going = going;
      answers = elim c.match-heard.branch [
        | in-Ok w ↦
            rw (w.result-is, c.is_err-starved.ensures.value, w.in-Ok.is)
            (subst (λ r. IfOk r (λ made. Answers (entry_step c.self.inside.total.entries c.self.inside.session (record { event = c.args.event; starved = false })) c.hear-heard.new.session made.0.items made.1)) w.in-Ok.is c.hear-heard.ensures.ok)
        | in-Err w ↦
            rw (w.result-is, c.is_err-starved.ensures.value, w.in-Err.is, w.new.ensures.items)
            (subst (λ r. OnErr r (Answers (entry_step c.self.inside.total.entries c.self.inside.session (record { event = c.args.event; starved = true })) c.hear-heard.new.session [] None)) w.in-Err.is c.hear-heard.ensures.err)
      ];
      more = c.push_reserved.ensures.items;
      counted = c.with-self-inside.ensures;
      less = omega arith;
      last = λ e. (let two = subst (λ (v : TraceView). 2 ≤ v.room) (sym c.self.view_is) (c.requires.spare e) in two);
    }

pub invariant_of-self : goal.invariant_of-self
invariant_of-self c = (
  trace_more _ _ _ _ _ _ _ _ _ _ _ _ _ _ (puts c),
  held_more c.self.inside.entries.items c.push_reserved.new.self.items (record { event = c.args.event; starved = c.is_err-starved.result }) c.self.inside.held c.saturating_add-self-inside.result c.held.result c.push_reserved.ensures.items c.self.invariant.1
      c.held.ensures c.saturating_add-self-inside.ensures,
)

pub returns : goal.returns
returns c = rw (← c.self.view_is) (trace_steps _ _ _ _ _ _ _ _ _ _ _ _ _ _ _ (puts c)
    (λ calm. c.is_err-starved.ensures.value ∙ well _ (c.hear-heard.ensures.calm calm))
    (λ spare silent light. c.is_err-starved.ensures.value ∙ well _ (c.hear-heard.ensures.silent spare silent light)))
