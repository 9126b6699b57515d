use Rattle.std.proofs.Common.{◌≡◌, ◌<◌, ◌≤◌, ◌∙◌, ◌∷◌, ◌++◌, ◌+◌, ◌^◌, List, [], Ok, ap, arith, get_or, length, subst, sym, take}
use Rattle.std.proofs.lemmas.List.{take_all, take_more}
use Rattle.cb_base.proofs.Fields.{ok_is}
use Rattle.cb_base.specs.declared.hash.Hash256.{Hash256}
use Rattle.cb_block.specs.declared.block.Block.{Block}
use Rattle.cb_block.specs.declared.tx.Tx.{Tx}
use Rattle.cb_ledger.proofs.Txs.{name_at}
use Rattle.cb_ledger.specs.Spend.{spend, spend_tx}
use Rattle.cb_ledger.specs.Unspent.{Unspent}
use Rattle.cb_block.specs.Txid.{txid_of}
use Rattle.cb_pool.specs.Staying.{Tells}
use Rattle.cb_pool.proofs.Thinned.{block_more, block_none, block_all}
use Rattle.cb_pool.proofs.thinning.mark_block.Goals as goal

pub loop-place-init : goal.loop-place-init
loop-place-init c = block_none c.args.marks.now

pub mark_tx-requires-clause-name : goal.mark_tx-requires-clause-name
mark_tx-requires-clause-name c =
    let none : Hash256 = record { 0 = [] } in
    let txs = c.args.block.now.txs in
    let place = c.loop-place.place in
    let tx = c.index-as_slice-place.result in
    let long : c.as_slice-place-end.result.now ≡ txs = c.as_slice-place-end.ensures ∙ ap (λ (b : Block). b.txs) c.block.ensures.same in
    let slice : c.as_slice.result.now ≡ txs = c.as_slice.ensures ∙ ap (λ (b : Block). b.txs) c.block-in-loop-place.ensures.same in
    let at : tx ≡ get_or txs place tx = subst (λ (l : List Tx). tx ≡ get_or l place tx) slice c.index-as_slice-place.is in
    let within : place < length txs = subst (λ (l : List Tx). place < length l) long c.loop-place-test.true in
    subst (λ (t : Tx). get_or c.txids.result.now place none ≡ txid_of t) (sym c.deref-in-loop-place.ensures) (name_at txs c.txids.result.now place tx none c.txids.ensures within at)

pub loop-place-preserved : goal.loop-place-preserved
loop-place-preserved c =
    let txs = c.args.block.now.txs in
    let place = c.loop-place.place in
    let tx = c.index-as_slice-place.result in
    let long : c.as_slice-place-end.result.now ≡ txs = c.as_slice-place-end.ensures ∙ ap (λ (b : Block). b.txs) c.block.ensures.same in
    let slice : c.as_slice.result.now ≡ txs = c.as_slice.ensures ∙ ap (λ (b : Block). b.txs) c.block-in-loop-place.ensures.same in
    let at : tx ≡ get_or txs place tx = subst (λ (l : List Tx). tx ≡ get_or l place tx) slice c.index-as_slice-place.is in
    let within : place < length txs = subst (λ (l : List Tx). place < length l) long c.loop-place-test.true in
    let one = subst (λ (t : Tx). (was now next : Unspent) → spend_tx now t ≡ Ok next → Tells c.loop-place.marks was now → Tells c.mark_tx.new.marks was next) c.deref-in-loop-place.ensures c.in_ok-mark_tx.ensures.tells in
    block_more c.args.marks.now c.loop-place.marks c.mark_tx.new.marks txs place tx within at one c.loop-place.invariant

pub returns-clause-tells : goal.returns-clause-tells
returns-clause-tells c = λ known.
    let txs = c.args.block.now.txs in
    let long : c.as_slice-place-end.result.now ≡ txs = c.as_slice-place-end.ensures ∙ ap (λ (b : Block). b.txs) c.block.ensures.same in
    block_all c.args.marks.now c.loop-place.marks txs c.loop-place.place (omega (arith, ap length long, c.loop-place-test.false)) c.loop-place.invariant
