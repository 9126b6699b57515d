use Rattle.std.proofs.Common.{◌≡◌, ◌∙◌, ap, sym, subst, [], List, get_or}
use Rattle.cb_base.specs.declared.hash.Hash256.{Hash256}
use Rattle.cb_block.specs.declared.block.Block.{Block}
use Rattle.cb_block.specs.declared.tx.Tx.{Tx}
use Rattle.cb_ledger.proofs.Txs.{name_at}
use Rattle.cb_pool.proofs.Named.{got_at, stands_in_block}
use Rattle.cb_pool.proofs.candidate.Candidate.of_block.Goals as goal

pub invariant_of-result : goal.invariant_of-result
invariant_of-result c =
    let none : Hash256 = record { 0 = [] } in
    let txs = c.args.block.now.txs in
    let tx = c.in_ok-tx.tx in
    let slice : c.as_slice.result.now ≡ txs = c.as_slice.ensures ∙ ap (λ (b : Block). b.txs) c.block.ensures.same in
    let at : c.index-as_slice-place.result ≡ get_or txs c.args.place c.index-as_slice-place.result = subst (λ (l : List Tx). c.index-as_slice-place.result ≡ get_or l c.args.place c.index-as_slice-place.result) slice c.index-as_slice-place.is in
    let there : get_or txs c.args.place tx ≡ tx = subst (λ (x : Tx). get_or txs c.args.place x ≡ x) (sym c.in_ok-tx.ensures) (sym at) in (
      name_at txs c.txids.result.now c.args.place tx none c.txids.ensures c.requires.within (sym there),
      stands_in_block txs c.args.place tx c.requires.rules.txs c.requires.rules.coinbase c.block.ensures.sound.no_size_64 c.requires.place c.requires.within there,
    )

pub returns-clause-same : goal.returns-clause-same
returns-clause-same c =
    let txs = c.args.block.now.txs in
    let tx = c.in_ok-tx.tx in
    let slice : c.as_slice.result.now ≡ txs = c.as_slice.ensures ∙ ap (λ (b : Block). b.txs) c.block.ensures.same in
    let at : c.index-as_slice-place.result ≡ get_or txs c.args.place c.index-as_slice-place.result = subst (λ (l : List Tx). c.index-as_slice-place.result ≡ get_or l c.args.place c.index-as_slice-place.result) slice c.index-as_slice-place.is in
    got_at txs c.args.place tx c.requires.within (subst (λ (x : Tx). get_or txs c.args.place x ≡ x) (sym c.in_ok-tx.ensures) (sym at))
