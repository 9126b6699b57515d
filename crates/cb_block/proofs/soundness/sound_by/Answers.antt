use Rattle.std.proofs.Common.{subst}
use Rattle.cb_block.specs.Blocks.{IsSoundBlock, texts}
use Rattle.cb_block.proofs.Only.{only_one}
use Rattle.cb_block.proofs.soundness.sound_by.Goals as goal

pub returns-in-Ok-clause-only : goal.returns-in-Ok-clause-only
returns-in-Ok-clause-only c = only_one c.args.block.header.root (texts c.args.block.txs) (subst IsSoundBlock c.deref.ensures c.in-Ok.ensures.sound)
