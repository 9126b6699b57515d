-- Which outpoints transactions spend and create.
use Rattle.std.specs.Prelude.{◌≡◌, ◌<◌, ◌⊎◌, ◌≤ℤ◌, pos, true, false, List, [], ◌∷◌, length, Ok}
use Rattle.std.specs.FinMap as map
use Rattle.cb_base.specs.declared.hash.Hash256.{Hash256}
use Rattle.cb_base.specs.DoubleHash.{double_hash}
use Rattle.cb_block.specs.declared.tx.OutPoint.{OutPoint}
use Rattle.cb_block.specs.declared.tx.TxIn.{TxIn}
use Rattle.cb_block.specs.declared.tx.TxOut.{TxOut}
use Rattle.cb_block.specs.declared.tx.Tx.{Tx}
use Rattle.cb_block.specs.TxRules.{value_sum}
use Rattle.cb_block.specs.TxText.{tx_text}
use Rattle.cb_ledger.specs.Spend.{is_coinbase, spend_tx}
use Rattle.cb_ledger.specs.Unspent.{Unspent}

-- an input has this outpoint
abbrev pub IsNamed : List TxIn → OutPoint → Type 0
IsNamed [] point = ⊥
IsNamed (input ∷ inputs) point = (input.prev ≡ point) ⊎ IsNamed inputs point

-- a transaction that isn't a coinbase has an input with this outpoint
abbrev pub IsSpent : List Tx → OutPoint → Type 0
IsSpent [] point = ⊥
IsSpent (tx ∷ txs) point =
    ((is_coinbase tx.inputs ≡ false) × IsNamed tx.inputs point) ⊎ IsSpent txs point

-- the outpoint is that of an output of one of the transactions
abbrev pub IsMade : List Tx → OutPoint → Type 0
IsMade [] point = ⊥
IsMade (tx ∷ txs) point =
    ((point.txid ≡ double_hash (tx_text tx)) × (point.index < length tx.outputs)) ⊎ IsMade txs point

-- the output of the first input is unspent
abbrev pub SpendsFirst : Unspent → List TxIn → Type 0
SpendsFirst u [] = ⊥
SpendsFirst u (input ∷ inputs) = map.contains_key u input.prev ≡ true

-- the first output isn't unspent yet
abbrev pub MakesFirst : Unspent → Hash256 → List TxOut → Type 0
MakesFirst u txid [] = ⊥
MakesFirst u txid (output ∷ outputs) =
    map.contains_key u (record { txid = txid; index = 0 }) ≡ false

-- The transaction spends or creates an output before it meets a fault: it spends with its first
-- input, or it has nothing to spend (a coinbase, or no inputs and no value) and creates its first
-- output.
pub data TouchesOne (u : Unspent) (tx : Tx) : Type 0 where
  spends : is_coinbase tx.inputs ≡ false → SpendsFirst u tx.inputs → TouchesOne u tx
  mints : is_coinbase tx.inputs ≡ true → MakesFirst u (double_hash (tx_text tx)) tx.outputs
      → TouchesOne u tx
  makes : tx.inputs ≡ [] → value_sum tx.outputs ≤ℤ pos 0
      → MakesFirst u (double_hash (tx_text tx)) tx.outputs → TouchesOne u tx

-- One of the transactions does, before any fault.
abbrev pub Touches : Unspent → List Tx → Type 0
Touches u [] = ⊥
Touches u (tx ∷ txs) =
    TouchesOne u tx ⊎ ((next : Unspent) × (spend_tx u tx ≡ Ok next) × Touches next txs)
