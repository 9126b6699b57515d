-- One transaction more.
use Rattle.std.proofs.Common.{◌≡◌, ◌++◌, ◌∷◌, [], ◌∙◌, ap, subst}
use Rattle.std.proofs.lemmas.List.Elements.{All-more}
use Rattle.cb_base.specs.DoubleHash.{double_hash}
use Rattle.cb_block.specs.TxText.{IsTx, tx_text}
use Rattle.cb_block.proofs.Texts.{names_more}
use Rattle.cb_block.proofs.soundness.txids_of.Goals as goal

pub loop-i-preserved : goal.loop-i-preserved
loop-i-preserved c =
    let written : c.put_text.new.text.items ≡ tx_text c.index-txs-i.result = c.in_ok-put_text.ensures.ok ∙ ap tx_text c.deref.ensures in
    let named : c.dsha.result ≡ double_hash (tx_text c.index-txs-i.result) = c.dsha.ensures ∙ ap double_hash (c.as_slice.ensures.value ∙ written) in
    let pushed : c.push.new.self.items ≡ c.loop-i.txids.items ++ c.dsha.result ∷ [] = c.in_ok-push.ensures.items in (
      pushed ∙ names_more c.args.txs.now c.loop-i.i c.index-txs-i.result c.loop-i.txids.items c.dsha.result c.loop-i-test.true c.index-txs-i.is c.loop-i.invariant.0 named,
      All-more IsTx c.args.txs.now c.loop-i.i c.index-txs-i.result c.loop-i-test.true c.loop-i.invariant.1 (rw (← c.index-txs-i.is) (subst IsTx c.deref.ensures c.in_ok-put_text.ensures.fits)),
    )
