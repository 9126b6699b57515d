use Rattle.std.proofs.Common.{take}
use Rattle.cb_base.specs.Seeding.{AreKeys}
use Rattle.cb_block.specs.TxText.{points_text}
use Rattle.cb_block.proofs.tx_rules.seed_of_points.Given as goal

abbrev pub invariant-loop-input : goal.invariant-loop-input
invariant-loop-input l = AreKeys l.keys (points_text (take l.input-index l.inputs))
