use Rattle.std.proofs.Common.{subst, All}
use Rattle.cb_block.specs.TxText.{IsTx}
use Rattle.cb_block.specs.Blocks.{IsSoundBlock, texts}
use Rattle.cb_block.proofs.Only.{only_one}
use Rattle.cb_block.proofs.Texts.{only_txs}
use Rattle.cb_block.proofs.soundness.sound.Goals as goal

pub returns-in-Ok-clause-only : goal.returns-in-Ok-clause-only
returns-in-Ok-clause-only c = only_one c.args.block.header.root (texts c.args.block.txs) (subst IsSoundBlock c.deref.ensures c.in-Ok.ensures.sound)

pub returns-in-Ok-clause-only_txs : goal.returns-in-Ok-clause-only_txs
returns-in-Ok-clause-only_txs c = only_txs c.args.block.header.root c.args.block.txs (subst IsSoundBlock c.deref.ensures c.in-Ok.ensures.sound) (subst (λ block. All IsTx block.txs) c.deref.ensures c.in-Ok.ensures.fits)
