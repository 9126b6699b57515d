use Rattle.std.proofs.Common.{arith}
use Rattle.cb_state.proofs.TipHeight.{tip_low}
use Rattle.cb_state.proofs.mining.height_on.Goals as goal

pub overflow_add-result : goal.overflow_add-result
overflow_add-result c = omega (arith, tip_low c.args.chain.now c.tip_height.result c.has_history.ensures c.tip_height.ensures)

pub returns-clause-low : goal.returns-clause-low
returns-clause-low c = omega (arith, tip_low c.args.chain.now c.tip_height.result c.has_history.ensures c.tip_height.ensures)
