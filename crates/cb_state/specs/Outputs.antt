-- What outputs are worth, in the UTXO set and after the mempool's transactions.
use Rattle.std.specs.Prelude.{◌≡◌, ℕ, ℤ, Bool, true, false, List, Option, Some, None, option_map, slice_get}
use Rattle.std.specs.FinMap as map
use Rattle.cb_block.specs.declared.tx.OutPoint.{OutPoint}
use Rattle.cb_block.specs.declared.tx.Tx.{Tx}
use Rattle.cb_block.specs.declared.tx.TxOut.{TxOut}
use Rattle.cb_ledger.specs.Unspent.{Unspent}
use Rattle.cb_pool.specs.Listing.{txs_of}
use Rattle.cb_pool.specs.Rules.{named_in}
use Rattle.cb_state.specs.Accepting.{IsPooledValue}
use Rattle.cb_state.specs.State.{RelayState, IsUnspent}
use Rattle.cb_state.specs.declared.outputs.OutputLook.{OutputLook}

-- An output of the UTXO set of the tip.
abbrev pub IsLedgerValue : RelayState → OutPoint → Option ℤ → Type 0
IsLedgerValue state point value =
    (u : Unspent) × IsUnspent state.tree u × (value ≡ map.get u point)

-- Its value after the mempool's transactions, and the one of them that makes it; or its value in
-- the UTXO set alone. Nothing if it isn't unspent.
abbrev pub IsOutputLook : RelayState → OutPoint → Bool → Option OutputLook → Type 0
IsOutputLook state point true None = IsPooledValue state point None
IsOutputLook state point true (Some look) =
    IsPooledValue state point (Some look.value)
    × (look.tx ≡ named_in (txs_of state.pool.list) point.txid)
IsOutputLook state point false None = IsLedgerValue state point None
IsOutputLook state point false (Some look) =
    IsLedgerValue state point (Some look.value) × (look.tx ≡ None)

-- the value of the output at a place
abbrev pub value_at : List TxOut → ℕ → Option ℤ
value_at outputs index = option_map (λ (output : TxOut). output.value) (slice_get outputs index)

-- What an output is worth that a transaction of the mempool may spend.
abbrev pub ValueBelow : RelayState → OutPoint → Option Tx → Option ℤ → Type 0
ValueBelow state point None value = IsLedgerValue state point value
ValueBelow state point (Some tx) value = value ≡ value_at tx.outputs point.index

abbrev pub IsValueBelow : RelayState → OutPoint → Option ℤ → Type 0
IsValueBelow state point value =
    ValueBelow state point (named_in (txs_of state.pool.list) point.txid) value
