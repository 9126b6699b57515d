use Rattle.std.proofs.Common.{◌≡◌, ◌<◌, arith}
use Rattle.std.proofs.lemmas.Bool.{lt-ltb, ltb-true}
use Rattle.std.proofs.lemmas.List.Elements.{All-from_recursion, recursion_from_All}
use Rattle.cb_block.proofs.Target.{all_zero, parted}
use Rattle.cb_block.proofs.header.meets_target.Goals as goal

pub returns-then-high-eq8388607 : goal.returns-then-high-eq8388607
returns-then-high-eq8388607 c =
    let p = parted c.args.hash.now c.split_at.result.0.now c.split_at.result.1.now c.from_le_bytes-high.result c.requires (λ i. omega (arith, c.type_inv.hash i)) c.split_at.ensures.front c.split_at.ensures.back c.from_le_bytes-high.ensures in
    let z = all_zero c.split_at.result.0.now in (
      λ t. omega (arith, p.whole, z.1 (recursion_from_All (λ byte. byte ≡ 0) c.split_at.result.0.now (c.are_zero.ensures.0 t))),
      λ le. c.are_zero.ensures.1 (All-from_recursion (λ byte. byte ≡ 0) c.split_at.result.0.now (z.0 (omega (arith, p.whole)))),
    )

pub returns : goal.returns
returns c =
    let p = parted c.args.hash.now c.split_at.result.0.now c.split_at.result.1.now c.from_le_bytes-high.result c.requires (λ i. omega (arith, c.type_inv.hash i)) c.split_at.ensures.front c.split_at.ensures.back c.from_le_bytes-high.ensures in (
      λ t. let lt : c.from_le_bytes-high.result < 8388607 = ltb-true _ _ t in omega (arith, p.whole, p.below),
      λ le. lt-ltb _ _ (omega (arith, p.whole, p.below)),
    )
