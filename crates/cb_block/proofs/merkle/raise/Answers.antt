-- The steps and the end of the loop over the pairs.
use Rattle.std.proofs.Common.{◌≡◌, ◌*◌, ◌+◌, ◌<◌, ◌/◌, ◌%◌, ◌∙◌, Vec, Global, length, take, ap, arith}
use Rattle.cb_base.specs.declared.hash.Hash256.{Hash256}
use Rattle.cb_block.proofs.Raising.{raise_more, raise_ends_odd, raise_ends_even}
use Rattle.cb_block.proofs.merkle.raise.Goals as goal
use Rattle.cb_block.proofs.merkle.raise.Goals.{then-len-eq1, else-len-eq1}

pub loop-k-preserved : goal.loop-k-preserved
loop-k-preserved c =
    let lt : 2 * c.loop-k.k + 1 < length c.args.level.now.items = omega (arith, c.len-len.ensures) in
    rw c.hash_above.ensures (raise_more c.args.level.now.items c.loop-k.level.items c.loop-k.k c.loop-k.invariant c.index.result.now c.index-in-loop-k.result.now lt c.index.ensures c.index-in-loop-k.ensures)

pub returns : goal.returns
returns c =
    let half : c.loop-k.k ≡ c.len-len.result / 2 = omega (arith, c.raise_fours-done.ensures.count) in
    let len : length c.args.level.now.items ≡ c.len-len.result = omega (arith, c.len-len.ensures) in
    elim c.if-len-eq1.branch [
      | then-len-eq1 w ↦
          c.truncate.ensures.items
          ∙ ap (λ (v : Vec Hash256 Global). take (c.len-len.result / 2 + c.len-len.result % 2) v.items) w.level-is
          ∙ raise_ends_odd c.args.level.now.items c.loop-k.level.items c.loop-k.k c.len-len.result w.index-then-len-eq1.result.now w.hash_above-then-len-eq1.result c.loop-k.invariant len half w.if-len-eq1.true w.index-then-len-eq1.ensures w.hash_above-then-len-eq1.ensures
      | else-len-eq1 w ↦
          c.truncate.ensures.items
          ∙ ap (λ (v : Vec Hash256 Global). take (c.len-len.result / 2 + c.len-len.result % 2) v.items) w.level-is
          ∙ raise_ends_even c.args.level.now.items c.loop-k.level.items c.loop-k.k c.len-len.result c.loop-k.invariant len half w.if-len-eq1.false
    ]
