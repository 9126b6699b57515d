use Rattle.std.proofs.Common.{arith}
use Rattle.cb_block.proofs.BlockRules.{block_verdict_at}
use Rattle.cb_block.proofs.block_rules.check_block.Goals as goal

pub returns-clause-exact : goal.returns-clause-exact
returns-clause-exact c =
    block_verdict_at c.args.block.now c.block-block.result.now c.as_slice.result.now c.as_slice-2.result.now c.check_txs.result c.block-block.ensures.same c.as_slice.ensures c.as_slice-2.ensures (omega (arith, c.size.ensures)) (c.has_one_coinbase.ensures.0 c.if-not-has_one_coinbase.false) c.check_txs.ensures.exact
