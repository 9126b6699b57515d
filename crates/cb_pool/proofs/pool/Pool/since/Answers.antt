use Rattle.std.proofs.Common.{arith}
use Rattle.std.proofs.lemmas.Grind.{common_steps}
use Rattle.cb_pool.proofs.pool.Pool.since.Goals as goal

pub loop-pooled-preserved : goal.loop-pooled-preserved
loop-pooled-preserved c = grind (arith, common_steps)
