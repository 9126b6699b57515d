use Rattle.std.proofs.Common.{◌≡◌, ◌∙◌, ℕ, ap, arith, drop, take}
use Rattle.cb_chain.specs.Laws.{accepted_headers}
use Rattle.cb_state.proofs.Pages.{page_last, page_more}
use Rattle.cb_state.proofs.headers.headers_from.Goals as goal
use Rattle.cb_state.proofs.headers.headers_from.Goals.{else-loop-step-test, then-loop-step-test+in-None}

pub loop-step-init : goal.loop-step-init
loop-step-init c = c.new-headers.ensures.items

pub loop-step-preserved : goal.loop-step-preserved
loop-step-preserved c =
    c.in_ok-push-in-Some.ensures.items ∙ page_more (accepted_headers c.args.chain.now) c.loop-step.headers.items c.args.place c.loop-step.step c.in-Some.header.now c.in-Some.ensures c.loop-step.invariant

pub returns-clause-exact : goal.returns-clause-exact
returns-clause-exact c =
    let headers = accepted_headers c.args.chain.now in
    elim c.loop-step-test.branch [
      | else-loop-step-test w ↦
          let all : c.loop-step.step ≡ 2000 = omega (arith, w.loop-step-test.false, c.loop-step.auto.step-end) in
          c.loop-step.invariant ∙ ap (λ (n : ℕ). take n (drop c.args.place headers)) all
      | then-loop-step-test+in-None w ↦
          page_last headers c.loop-step.headers.items c.args.place c.loop-step.step 2000 w.in-None.ensures c.loop-step.auto.step-end c.loop-step.invariant
    ]
