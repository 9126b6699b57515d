-- What is sent fits in messages: a transaction of the pool, and transactions of a block.
use Rattle.std.proofs.Common.{◌≡◌, ◌≤◌, List, length, subst, sym, arith}
use Rattle.std.proofs.lemmas.List.{length-append}
use Rattle.cb_base.specs.declared.hash.Hash256.{Hash256}
use Rattle.cb_wire.specs.BlockTransactions.{block_txs_text}
use Rattle.cb_pool.specs.Rules.{StandsAlone}
use Rattle.cb_state.proofs.Fits.{not_long}
use Rattle.cb_state.specs.Parts.{IsCarried}
use Rattle.cb_block.specs.TxText.{list_text, tx_text}
use Rattle.cb_block.specs.declared.tx.Tx.{Tx}

-- A transaction that stands alone fits.
pub tx_carried : (tx shown copy : Tx) → StandsAlone tx → shown ≡ tx → copy ≡ shown → length (tx_text copy) ≤ 4000000
tx_carried tx shown copy alone same copied =
    subst (λ (t : Tx). length (tx_text t) ≤ 4000000) (sym copied) (subst (λ (t : Tx). length (tx_text t) ≤ 4000000) (sym same) (omega (arith, not_long tx alone.rules)))

-- So do transactions of a block under its hash.
pub part_carried : (hash : Hash256) (txs : List Tx) → length hash.0 ≡ 32 → IsCarried txs → length (block_txs_text (record { block = hash; txs = txs })) ≤ 4000000
unfolding block_txs_text
part_carried hash txs long few = omega (arith, long, few, length-append hash.0 (list_text tx_text txs))
