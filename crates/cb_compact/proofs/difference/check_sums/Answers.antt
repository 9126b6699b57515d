use Rattle.std.proofs.Common.{◌≡◌, ◌+◌, ◌<◌, ◌≤◌, ◌^◌, get_or, arith, refl, subst}
use Rattle.cb_compact.proofs.Indexes.{sums_next, sums_past, sums_reach}
use Rattle.cb_compact.proofs.difference.check_sums.Goals as goal

pub returns-in_default : goal.returns-in_default
returns-in_default c =
    let i = c.loop-difference.difference-index in
    let is : c.in-Some.index ≡ c.loop-difference.least + get_or c.args.differences.now i 0 = c.in-Some.ensures.1 in
    (refl, c.loop-difference.invariant.1 (sums_reach c.args.total c.loop-difference.least c.args.differences.now i c.loop-difference-test.true (subst (λ it. c.args.total ≤ it) is c.if-index-total.false)))

pub returns-in_default-2 : goal.returns-in_default-2
returns-in_default-2 c =
    let i = c.loop-difference.difference-index in
    let small : c.args.total < 2 ^ 64 = c.ranges.total.fits in
    let past : c.args.total ≤ c.loop-difference.least + get_or c.args.differences.now i 0 = omega (arith, small, c.in_default.ensures) in
    (refl, c.loop-difference.invariant.1 (sums_reach c.args.total c.loop-difference.least c.args.differences.now i c.loop-difference-test.true past))

pub loop-difference-preserved : goal.loop-difference-preserved
loop-difference-preserved c =
    let i = c.loop-difference.difference-index in
    let is : c.in-Some.index ≡ c.loop-difference.least + get_or c.args.differences.now i 0 = c.in-Some.ensures.1 in (
      λ all. c.loop-difference.invariant.0 (sums_next c.args.total c.loop-difference.least c.in-Some.index c.args.differences.now i c.loop-difference-test.true is c.if-index-total.true all),
      λ any. c.loop-difference.invariant.1 (sums_past c.args.total c.loop-difference.least c.in-Some.index c.args.differences.now i c.loop-difference-test.true is any),
    )
