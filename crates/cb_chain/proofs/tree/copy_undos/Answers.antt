use Rattle.std.proofs.Common.{arith}
use Rattle.std.proofs.lemmas.Grind.{common_steps}
use Rattle.cb_chain.proofs.tree.copy_undos.Goals as goal

pub loop-undo-preserved : goal.loop-undo-preserved
loop-undo-preserved c = grind (arith, common_steps)
