use Rattle.std.proofs.Common.{◌∙◌, arith}
use Rattle.cb_block.proofs.Raising.{raise_four_at}
use Rattle.cb_block.proofs.merkle.raise_fours.Goals as goal

pub loop-i-preserved : goal.loop-i-preserved
loop-i-preserved c =
    raise_four_at c.args.level.now c.loop-i.level c.four_above-above.result c.copy_from_slice.new.self c.loop-i.i _ c.loop-i.invariant (omega (arith, c.loop-i-test.true)) c.four_above-above.ensures (c.copy_from_slice.ensures.after ∙ c.as_slice.ensures) (omega arith)
