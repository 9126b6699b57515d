use Rattle.std.proofs.Common.{◌+◌, ◌<◌, ◌^◌, ◌++◌, ◌∷◌, [], get_or, drop, arith, ap, ◌∙◌, sym, append_assoc}
use Rattle.cb_compact.specs.Differences.{sums}
use Rattle.cb_compact.proofs.Indexes.{sum_below, sums_here}
use Rattle.cb_compact.proofs.difference.undiffer.Goals as goal

pub overflow_add-index : goal.overflow_add-index
overflow_add-index c =
    let i = c.loop-difference.difference-index in
    let small : c.args.total < 2 ^ 64 = c.ranges.total.fits in
    let below = sum_below c.args.total c.loop-difference.least c.args.differences.now i c.loop-difference-test.true c.loop-difference.invariant.1 in
    omega (arith, small, below.0)

pub overflow_add-least : goal.overflow_add-least
overflow_add-least c =
    let i = c.loop-difference.difference-index in
    let small : c.args.total < 2 ^ 64 = c.ranges.total.fits in
    let below = sum_below c.args.total c.loop-difference.least c.args.differences.now i c.loop-difference-test.true c.loop-difference.invariant.1 in
    omega (arith, small, below.0)

pub loop-difference-preserved : goal.loop-difference-preserved
loop-difference-preserved c =
    let i = c.loop-difference.difference-index in
    let index = c.loop-difference.least + get_or c.args.differences.now i 0 in
    let more = sums (index + 1) (drop (i + 1) c.args.differences.now) in
    let below = sum_below c.args.total c.loop-difference.least c.args.differences.now i c.loop-difference-test.true c.loop-difference.invariant.1 in (
      ap (λ list. list ++ more) c.in_ok-push.ensures.items ∙ append_assoc c.loop-difference.indexes.items (index ∷ []) more
          ∙ ap (λ list. c.loop-difference.indexes.items ++ list) (sym (sums_here c.loop-difference.least c.args.differences.now i c.loop-difference-test.true)) ∙ c.loop-difference.invariant.0,
      below.1,
    )

pub returns-in_err-push-clause-unpaid : goal.returns-in_err-push-clause-unpaid
returns-in_err-push-clause-unpaid c = λ none. absurd (omega (arith, none, c.loop-difference-test.true))
