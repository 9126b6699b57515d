use Rattle.std.proofs.Common.{◌≡◌, ◌*◌, map, take, All}
use Rattle.cb_block.specs.TxText.{IsTx, tx_text}
use Rattle.cb_block.specs.Soundness.{names}
use Rattle.cb_block.proofs.soundness.push_fours.Given as goal

abbrev pub invariant-loop-i : goal.invariant-loop-i
invariant-loop-i l = (l.txids.items ≡ names (map tx_text (take (4 * l.i) l.txs))) × All IsTx (take (4 * l.i) l.txs)
