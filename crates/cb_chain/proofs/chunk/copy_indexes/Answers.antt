use Rattle.std.proofs.Common.{arith, rules}
use Rattle.std.proofs.lemmas.Grind.{common_steps}
use Rattle.cb_chain.proofs.chunk.copy_indexes.Goals as goal

pub loop-block_index-preserved : goal.loop-block_index-preserved
loop-block_index-preserved c = (grind (arith, common_steps), search rules)
