use Rattle.std.proofs.Common.{◌≡◌, ◌∙◌, ◌∷◌, [], map, ap, arith}
use Rattle.std.proofs.lemmas.Grind.{common_steps}
use Rattle.cb_block.specs.TxText.{tx_text}
use Rattle.cb_block.specs.Genesis.{genesis_tx}
use Rattle.cb_block.specs.Soundness.{names}
use Rattle.cb_block.proofs.Beginning.{genesis_sound}
use Rattle.cb_block.proofs.soundness.genesis.Goals as goal

pub invariant_of-result : goal.invariant_of-result
invariant_of-result c =
    let one : c.new-txs.result ≡ c.in_ok-first_tx.field-0 ∷ [] = grind (arith, common_steps) in
    let is : c.in_ok-first_tx.field-0 ≡ genesis_tx = c.in_ok-first_tx.ensures.same in
    let listed : c.as_slice.result.now ≡ c.new-txs.result = grind (arith, common_steps) in
    let named : c.in_ok-txids.txids.items ≡ names (map tx_text c.new-txs.result) = c.in_ok-txids.ensures.names ∙ ap (λ x. names (map tx_text x)) listed in
    (rw c.in_ok-new-2.ensures.same (genesis_sound c.new-txs.result c.in_ok-first_tx.field-0 c.in_ok-txids.txids.items c.index.result.now one is named c.index.ensures), rw c.in_ok-new-3.ensures.same (rw c.in_ok-new-2.ensures.same named))
