-- Four transactions more.
use Rattle.std.proofs.Common.{◌≡◌, ◌+◌, ◌*◌, ◌≤◌, ◌++◌, List, [], ◌∷◌, length, ap, subst, ◌∙◌, arith}
use Rattle.cb_base.specs.declared.hash.Hash256.{Hash256}
use Rattle.cb_base.specs.DoubleHash.{double_hash}
use Rattle.cb_block.specs.TxText.{IsTx, tx_text}
use Rattle.cb_block.proofs.Texts.{four_fit, names_four}
use Rattle.cb_block.proofs.soundness.push_fours.Goals as goal

pub loop-i-preserved : goal.loop-i-preserved
loop-i-preserved c =
    let room : 4 * c.loop-i.i + 4 ≤ length c.args.txs.now = omega (arith, c.loop-i-test.true) in
    let four : 4 * (c.loop-i.i + 1) ≡ 4 * c.loop-i.i + 4 = omega arith in
    let a : c.put_text.new.text.items ≡ tx_text c.index-txs-i.result = c.in_ok-put_text.ensures.ok ∙ ap tx_text c.deref.ensures in
    let b : c.put_text-in-loop-i.new.text.items ≡ tx_text c.index-txs-i-in-loop-i.result = c.in_ok-put_text-2.ensures.ok ∙ ap tx_text c.deref-in-loop-i.ensures in
    let d : c.put_text-in-loop-i-2.new.text.items ≡ tx_text c.index-txs-i-in-loop-i-2.result = c.in_ok-put_text-3.ensures.ok ∙ ap tx_text c.deref-in-loop-i-2.ensures in
    let e : c.put_text-in-loop-i-3.new.text.items ≡ tx_text c.index-txs-i-in-loop-i-3.result = c.in_ok-put_text-4.ensures.ok ∙ ap tx_text c.deref-in-loop-i-3.ensures in
    let pushed : c.extend_from_slice.new.self.items ≡ c.loop-i.txids.items ++ c.in_ok-hashes.hashes = c.in_ok-extend_from_slice.ensures.items ∙ ap (λ (x : List Hash256). c.loop-i.txids.items ++ x) c.as_slice.ensures in
    let are : c.in_ok-hashes.hashes ≡ double_hash (tx_text c.index-txs-i.result) ∷ double_hash (tx_text c.index-txs-i-in-loop-i.result) ∷ double_hash (tx_text c.index-txs-i-in-loop-i-2.result) ∷ double_hash (tx_text c.index-txs-i-in-loop-i-3.result) ∷ [] =
    rw (← a, ← b, ← d, ← e) c.in_ok-hashes.ensures.hashes in (
      pushed ∙ names_four c.args.txs.now (4 * c.loop-i.i) (4 * (c.loop-i.i + 1)) c.index-txs-i.result c.index-txs-i-in-loop-i.result c.index-txs-i-in-loop-i-2.result c.index-txs-i-in-loop-i-3.result c.loop-i.txids.items c.in_ok-hashes.hashes four room
          c.index-txs-i.is c.index-txs-i-in-loop-i.is c.index-txs-i-in-loop-i-2.is c.index-txs-i-in-loop-i-3.is c.loop-i.invariant.0 are,
      four_fit c.args.txs.now (4 * c.loop-i.i) (4 * (c.loop-i.i + 1)) c.index-txs-i.result c.index-txs-i-in-loop-i.result c.index-txs-i-in-loop-i-2.result c.index-txs-i-in-loop-i-3.result four room
          c.index-txs-i.is c.index-txs-i-in-loop-i.is c.index-txs-i-in-loop-i-2.is c.index-txs-i-in-loop-i-3.is
          (subst IsTx c.deref.ensures c.in_ok-put_text.ensures.fits) (subst IsTx c.deref-in-loop-i.ensures c.in_ok-put_text-2.ensures.fits)
          (subst IsTx c.deref-in-loop-i-2.ensures c.in_ok-put_text-3.ensures.fits) (subst IsTx c.deref-in-loop-i-3.ensures c.in_ok-put_text-4.ensures.fits)
          c.loop-i.invariant.1,
    )
