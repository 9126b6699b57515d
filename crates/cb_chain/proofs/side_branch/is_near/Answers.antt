use Rattle.std.proofs.Common.{◌<◌, arith}
use Rattle.cb_chain.proofs.Tries.{parent_low}
use Rattle.cb_chain.proofs.side_branch.is_near.Goals.{then-low-high-2, else-low-high-2}
use Rattle.cb_chain.proofs.side_branch.is_near.Goals as goal

pub loop-preserved : goal.loop-preserved
loop-preserved c =
    elim c.if-low-high-2.branch [
      | then-low-high-2 w ↦
          let low : w.block_index.result.now.parent < c.loop.low = parent_low c.args.tree.now.block_indexes c.loop.low _ c.requires.tree c.loop.invariant.0 (omega (arith, w.if-low-high-2)) w.block_index.ensures.block_index in
          (omega (arith, low, w.low-is, c.loop.invariant.0), omega (arith, w.high-is, c.loop.invariant.1))
      | else-low-high-2 w ↦
          let low : w.block_index-else-low-high-2.result.now.parent < c.loop.high =
          parent_low c.args.tree.now.block_indexes c.loop.high _ c.requires.tree c.loop.invariant.1 (omega (arith, w.if-low-high-2, c.if-low-high.false)) w.block_index-else-low-high-2.ensures.block_index in
          (omega (arith, w.low-is, c.loop.invariant.0), omega (arith, low, w.high-is, c.loop.invariant.1))
    ]
