-- Going up the tree.
use Rattle.std.proofs.Common.{◌<◌, ◌≤◌, List, refl, length, arith, ap, subst}
use Rattle.std.specs.Prelude.{◌↔◌, IsTrue}
use Rattle.cb_base.specs.declared.hash.Hash256.{Hash256}
use Rattle.cb_block.specs.MerkleTree.{HasEqualPair}
use Rattle.cb_block.proofs.Climbing.{up_half, climb_start, climb_next, climb_end}
use Rattle.cb_block.proofs.merkle.tree.Goals as goal

pub loop-level-init : goal.loop-level-init
loop-level-init c = climb_start c.args.leaves.items (omega (arith, c.requires))

pub loop-level-smaller : goal.loop-level-smaller
loop-level-smaller c =
    let many : 1 < length c.loop-level.level.items = omega (arith, c.len.ensures) in
    omega (arith, (up_half c.loop-level.level.items).0, ap length c.raise.ensures)

pub loop-level-preserved : goal.loop-level-preserved
loop-level-preserved c =
    let many : 1 < length c.loop-level.level.items = omega (arith, c.len.ensures) in
    climb_next c.args.leaves.items c.loop-level.level.items c.raise.new.level.items c.loop-level.mutated c.has_equal_pair-mutated.result _ c.loop-level.invariant many c.raise.ensures
    (subst (λ (x : List Hash256). IsTrue c.has_equal_pair-mutated.result ↔ HasEqualPair x) c.as_slice.ensures.value c.has_equal_pair-mutated.ensures) refl

pub returns-clause-mutated : goal.returns-clause-mutated
returns-clause-mutated c =
    let few : length c.loop-level.level.items ≤ 1 = omega (arith, c.len.ensures) in
    climb_end c.args.leaves.items c.loop-level.level.items c.loop-level.mutated c.loop-level.invariant few
