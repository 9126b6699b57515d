use Rattle.std.proofs.Common.{◌≡◌, ◌∙◌, ◌+◌, length, arith}
use Rattle.cb_audit.specs.Covering.{dropped_of, left_in}
use Rattle.cb_audit.specs.Order.{AuditedTrace}
use Rattle.cb_audit.specs.Turns.{turns_in}
use Rattle.cb_audit.proofs.CoveredAnswers.{all_end, all_next, sum_next}
use Rattle.cb_audit.proofs.covering.covered.Goals as goal

pub loop-one-preserved : goal.loop-one-preserved
loop-one-preserved c =
    let kept = c.args.kept.now in
    let audited = c.args.audited.now in
    let n = c.loop-one.one-index in
    let so_far = c.loop-one.invariant in (
      sum_next (left_in kept) audited n c.one-item.result c.loop-one.compared.answers c.from.result so_far.0 c.loop-one-test.true c.one-item.is (c.from.ensures ∙ c.left.ensures.left),
      sum_next (dropped_of kept) audited n c.one-item.result c.loop-one.compared.dropped c.from-in-loop-one.result so_far.1 c.loop-one-test.true c.one-item.is (c.from-in-loop-one.ensures ∙ c.dropped.ensures),
      omega (arith, so_far.2, c.from.ensures),
      omega (arith, so_far.3, c.from-in-loop-one.ensures),
      all_next (λ (one : AuditedTrace). one.trace.before.told + length (turns_in one.trace) ≡ one.trace.total.told) audited n c.one-item.result so_far.4 c.loop-one-test.true c.one-item.is c.left.ensures.all,
    )

pub returns-clause-all : goal.returns-clause-all
returns-clause-all c = all_end (λ (one : AuditedTrace). one.trace.before.told + length (turns_in one.trace) ≡ one.trace.total.told) c.args.audited.now c.loop-one.one-index c.loop-one.invariant.4 c.loop-one-test.false
