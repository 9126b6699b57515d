use Rattle.std.proofs.Common.{[], refl, sym, ap, Err}
use Rattle.std.specs.String.{string_bytes}
use Rattle.std.proofs.lemmas.List.{append-nil}
use Rattle.std.proofs.lemmas.Result.{IfOk-weaker}
use Rattle.cb_commands.specs.SimRun.{refusal_text, unreadable_text}
use Rattle.cb_control.proofs.WordLemmas.{none_is_no_some}
use Rattle.cb_commands.proofs.SimRunLemmas.{opens, cannot_open, refuses}
use Rattle.cb_commands.proofs.sim.Simulation.line.Goals as goal

pub returns-in_ok-system-in-Some-clause-does : goal.returns-in_ok-system-in-Some-clause-does
returns-in_ok-system-in-Some-clause-does c =
    let a = c.self.inside in
    ([], sym (append-nil (string_bytes c.args.out.now)), rw (← c.self.view_is) (opens c.args.text.now a.lines a.stage a.refused c.saturating_add-self-inside.result c.in-Some.sizes c.in_ok-system-in-Some.system c.in-Opening.is c.saturating_add-self-inside.ensures ((c.in-Some.ensures.told c.in-Some.sizes).0 refl) c.in_ok-system-in-Some.ensures.opening))

pub returns-in-None-clause-does : goal.returns-in-None-clause-does
returns-in-None-clause-does c =
    let a = c.self.inside in
    let n = c.saturating_add-self-inside.result in
    IfOk-weaker c.unreadable.result _ _ (λ flow h. (unreadable_text n, h.1, rw (← c.self.view_is, c.unreadable.ensures.stage) (cannot_open c.args.text.now a.lines a.stage a.refused n flow c.in-Opening.is c.saturating_add-self-inside.ensures (λ s told. none_is_no_some s ((c.in-None.ensures.told s).1 told)) h.0))) c.unreadable.ensures.stop

pub returns-in_ok-print_refusal-in-Err-NotEnabled-clause-does : goal.returns-in_ok-print_refusal-in-Err-NotEnabled-clause-does
returns-in_ok-print_refusal-in-Err-NotEnabled-clause-does c =
    let a = c.self.inside in
    let n = c.saturating_add-self-inside.result in
    let m = c.in-Running.system in
    (refusal_text n, c.in_ok-print_refusal-in-Err-NotEnabled.ensures.text, rw (← c.self.view_is, c.in-Err-NotEnabled.ensures.err) (refuses c.args.text.now a.lines a.stage a.refused n m c.in-Some-read_act.act c.in-Running.is c.saturating_add-self-inside.ensures ((c.in-Some-read_act.ensures c.in-Some-read_act.act).0 refl) (c.in-Err-NotEnabled.ensures.refused.0 (ap (λ f. Err f) c.in-Err-NotEnabled.field-0-is))))
