-- The UTXO set that transactions leave if they can be spent, and how many outputs they touch.
use Rattle.std.specs.Prelude.{◌≡◌, ◌≤◌, ◌+◌, ℕ, ℤ, suc, List, [], ◌∷◌, length, Option}
use Rattle.std.specs.List.{AllByRecursion}
use Rattle.std.specs.FinMap as map
use Rattle.cb_base.specs.declared.hash.Hash256.{Hash256}
use Rattle.cb_block.specs.declared.tx.OutPoint.{OutPoint}
use Rattle.cb_block.specs.declared.tx.TxIn.{TxIn}
use Rattle.cb_block.specs.declared.tx.TxOut.{TxOut}
use Rattle.cb_block.specs.declared.tx.Tx.{Tx}
use Rattle.cb_ledger.specs.Undo.{changed, changes_of}
use Rattle.cb_ledger.specs.Unspent.{Unspent}
use Rattle.cb_pool.specs.declared.members.Pooled.{Pooled}
use Rattle.cb_pool.specs.Listing.{txs_of}
use Rattle.cb_pool.specs.Rules.{StandsAlone}
use Rattle.cb_block.specs.Txid.{txid_of}

-- without the outputs that the inputs spend
unfoldable pub without_inputs : Unspent → List TxIn → Unspent
without_inputs u [] = u
without_inputs u (input ∷ inputs) = without_inputs (map.remove u input.prev) inputs

-- with the outputs of a transaction, from the index `place` on
unfoldable pub with_outputs : Unspent → Hash256 → ℕ → List TxOut → Unspent
with_outputs u txid place [] = u
with_outputs u txid place (output ∷ outputs) =
    let point : OutPoint = record { txid = txid; index = place } in
    with_outputs (map.insert u point output.value) txid (suc place) outputs

-- the UTXO set after a transaction
abbrev pub after_tx : Unspent → Tx → Unspent
after_tx u tx = with_outputs (without_inputs u tx.inputs) (txid_of tx) 0 tx.outputs

-- the UTXO set after several transactions in order
unfoldable pub after_txs : Unspent → List Tx → Unspent
after_txs u [] = u
after_txs u (tx ∷ txs) = after_txs (after_tx u tx) txs

-- how many outputs a transaction spends or makes; then the same of several transactions
abbrev pub touched_by : Tx → ℕ
touched_by tx = length tx.inputs + length tx.outputs

abbrev pub touched_by_all : List Tx → ℕ
touched_by_all [] = 0
touched_by_all (tx ∷ txs) = touched_by tx + touched_by_all txs

-- A pool's transactions by their txids. `coins` is what they change in any UTXO set.
pub record AreMembers (entries : List (Hash256 × Pooled)) (list : List Pooled)
    (coins : List (OutPoint × Option ℤ)) : Type 0 where
  pub names : AllByRecursion (λ entry. entry.0 ≡ txid_of entry.1.tx) entries
  pub alone : AllByRecursion (λ pooled. StandsAlone pooled.tx) list
  pub few : length list ≤ 10000
  pub after : (u : Unspent) → changed u (changes_of coins) ≡ after_txs u (txs_of list)

-- The changes decide this outpoint: after them it has the same value, or none, in every UTXO set.
abbrev pub IsChanged : List (OutPoint × Option ℤ) → OutPoint → Type 0
IsChanged coins point =
    (value : Option ℤ) × ((u : Unspent) → map.get (changed u (changes_of coins)) point ≡ value)
