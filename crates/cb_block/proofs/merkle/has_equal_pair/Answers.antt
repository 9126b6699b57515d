use Rattle.std.proofs.Common.{◌+◌, ◌*◌, ◌<◌, ◌≤◌, length, refl, arith}
use Rattle.cb_block.proofs.EqualPairs.{all_seen, read_differs, read_equal}
use Rattle.cb_block.proofs.merkle.has_equal_pair.Goals as goal

pub returns-then-eq : goal.returns-then-eq
returns-then-eq c =
    let there : 2 * c.loop-k.k + 1 < length c.args.level.now = omega (arith, c.loop-k-test.true) in
    let found = read_equal c.args.level.now c.loop-k.k _ _ c.eq.result there c.eq.ensures c.if-eq.true in
    (λ t. found, λ h. refl)

pub loop-k-preserved : goal.loop-k-preserved
loop-k-preserved c =
    let there : 2 * c.loop-k.k + 1 < length c.args.level.now = omega (arith, c.loop-k-test.true) in
    read_differs c.args.level.now c.loop-k.k _ _ c.eq.result there c.eq.ensures c.if-eq.false c.loop-k.invariant

pub returns : goal.returns
returns c =
    let few : length c.args.level.now ≤ 2 * c.loop-k.k + 1 = omega (arith, c.loop-k-test.false) in
    let many : 2 * c.loop-k.k ≤ length c.args.level.now = omega arith in
    (λ t. absurd cc, λ h. absurd (c.loop-k.invariant (all_seen c.args.level.now c.loop-k.k few many h)))
