use Rattle.std.proofs.Common.{◌≡◌, ◌∙◌, ◌++◌, List, ℕ, Ok, ap, length, refl, sym}
use Rattle.cb_compact.specs.Differences.{sums}
use Rattle.cb_wire.specs.BlockTransactions.{block_txs_text}
use Rattle.cb_block.specs.declared.tx.Tx.{Tx}
use Rattle.cb_relay.specs.Serving.{served_of, txs_at}
use Rattle.cb_relay.proofs.Placing.{served_there}
use Rattle.cb_relay.proofs.serving.served_of.Goals as goal

pub returns : goal.returns
returns c =
    let asked = c.args.asked.now in
    let txs = c.args.txs.now in
    let same = c.as_slice.ensures.same in
    let all = c.in_ok-places.ensures.found.1 in
    let there = served_there (length txs) txs (record { block = asked.block; differences = c.as_slice.result.now }) refl all in
    let list : c.new.result ≡ txs_at txs (sums 0 c.as_slice.result.now) = c.new.ensures ∙ c.in_ok-list.ensures.exact ∙ ap (txs_at txs) (c.as_slice-2.ensures.value ∙ c.in_ok-places.ensures.found.0) in
    let text = c.in_ok-put_block_txs.ensures.ok ∙ ap (λ (it : List ℕ). it ++ block_txs_text (record { block = asked.block; txs = c.new.result })) c.new-text.ensures.items ∙ ap (λ (it : List Tx). block_txs_text (record { block = asked.block; txs = it })) list in
    record { exact = ap (λ (it : List ℕ). served_of txs (record { block = asked.block; differences = it })) (sym same) ∙ there ∙ ap (λ (it : List ℕ). Ok it) (sym text) }
