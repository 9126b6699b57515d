use Rattle.std.proofs.Common.{◌≤◌, ◌<◌, ap, ◌∙◌, sym, subst, length, All}
use Rattle.std.proofs.lemmas.List.{length-map}
use Rattle.cb_block.specs.TxText.{tx_text}
use Rattle.cb_wire.specs.CompactBlocks.{compact_block_text}
use Rattle.cb_compact.specs.Shortening.{whole_first}
use Rattle.cb_compact.specs.Sizes.{SpendsByHash}
use Rattle.cb_compact.proofs.Counted.{few_txs, ids_behind_are, is_short_form, shortened_fits, shortened_is}
use Rattle.cb_compact.proofs.shortening.shortened.Goals as goal

pub from_few-requires : goal.from_few-requires
from_few-requires c =
    let block = c.args.block.now in
    let txs_are = c.as_slice-txs.ensures ∙ ap (λ it. it.txs) c.block.ensures.same in
    let few = few_txs block (subst (All SpendsByHash) txs_are c.see_hashes.ensures) c.requires in
    let some : 0 < length block.txs = subst (λ n. 0 < n) (length-map block.txs tx_text) c.block.ensures.sound.some in
    let ids = ids_behind_are block c.args.nonce c.block-2.result.now.header c.key.result c.txids.result.now c.in_ok-ids.ids.items (ap (λ it. it.header) c.block-2.ensures.same) c.key.ensures c.txids.ensures c.in_ok-ids.ensures.same in
    is_short_form block c.args.nonce c.in_ok-ids.ids.items c.in_ok-prefilled.prefilled.items some few ids (c.in_ok-prefilled.ensures.same ∙ ap whole_first txs_are) c.in_ok-ids.ensures.low

pub returns-clause-same : goal.returns-clause-same
returns-clause-same c =
    let block = c.args.block.now in
    let header = ap (λ it. it.header) c.block-2.ensures.same in
    let txs_are = c.as_slice-txs.ensures ∙ ap (λ it. it.txs) c.block.ensures.same in
    let ids = ids_behind_are block c.args.nonce c.block-2.result.now.header c.key.result c.txids.result.now c.in_ok-ids.ids.items header c.key.ensures c.txids.ensures c.in_ok-ids.ensures.same in
    shortened_is block c.args.nonce c.block-2.result.now.header c.in_ok-ids.ids.items c.in_ok-prefilled.prefilled.items c.from_few.result header ids (c.in_ok-prefilled.ensures.same ∙ ap whole_first txs_are) c.from_few.ensures

pub returns-clause-fits : goal.returns-clause-fits
returns-clause-fits c =
    let block = c.args.block.now in
    let header = ap (λ it. it.header) c.block-2.ensures.same in
    let txs_are = c.as_slice-txs.ensures ∙ ap (λ it. it.txs) c.block.ensures.same in
    let ids = ids_behind_are block c.args.nonce c.block-2.result.now.header c.key.result c.txids.result.now c.in_ok-ids.ids.items header c.key.ensures c.txids.ensures c.in_ok-ids.ensures.same in
    let same = shortened_is block c.args.nonce c.block-2.result.now.header c.in_ok-ids.ids.items c.in_ok-prefilled.prefilled.items c.from_few.result header ids (c.in_ok-prefilled.ensures.same ∙ ap whole_first txs_are) c.from_few.ensures in
    let few = few_txs block (subst (All SpendsByHash) txs_are c.see_hashes.ensures) c.requires in
    subst (λ form. length (compact_block_text form) ≤ 4000000) (sym same) (shortened_fits block c.args.nonce few c.requires.size)
