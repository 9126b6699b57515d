-- How transactions change the UTXO set (Bitcoin's consensus, without scripts, coinbase maturity and
-- subsidy).
use Rattle.std.specs.Prelude.{◌≡◌, ◌⊎◌, ℕ, suc, ℤ, pos, ◌+ℤ◌, Bool, false, ◌&&◌, ◌==◌, int_lt, if◌then◌else◌, List, [], ◌∷◌, replicate, Result, Ok, Err}
use Rattle.std.specs.Cmp.Lexicographic.{pointwise}
use Rattle.std.specs.Prelude.{nat_eq, Option, None, Some}
use Rattle.std.specs.FinMap as map
use Rattle.cb_base.specs.declared.fault.Fault.{Fault}
use Rattle.cb_base.specs.declared.fault.Fault.TheVariants.{Memory, NoInput, Overspent, Remade}
use Rattle.cb_base.specs.declared.hash.Hash256.{Hash256}
use Rattle.cb_base.specs.DoubleHash.{double_hash}
use Rattle.cb_base.specs.Reading.{◌>>=◌}
use Rattle.cb_block.specs.declared.tx.OutPoint.{OutPoint}
use Rattle.cb_block.specs.declared.tx.TxIn.{TxIn}
use Rattle.cb_block.specs.declared.tx.TxOut.{TxOut}
use Rattle.cb_block.specs.declared.tx.Tx.{Tx}
use Rattle.cb_block.specs.TxRules.{value_sum}
use Rattle.cb_block.specs.TxText.{tx_text}
use Rattle.cb_ledger.specs.Unspent.{Unspent}

-- the null outpoint: txid zero and index ffffffff
abbrev pub is_null : OutPoint → Bool
is_null prev = pointwise nat_eq prev.txid.0 (replicate 32 0) && (prev.index == 4294967295)

-- exactly one input, which has the null outpoint
abbrev pub is_coinbase : List TxIn → Bool
is_coinbase [] = false
is_coinbase (only ∷ []) = is_null only.prev
is_coinbase (first ∷ second ∷ others) = false

-- An input takes its output out of the UTXO set and counts its value. If the output isn't unspent,
-- the input is refused.
abbrev pub take_output : Unspent → OutPoint → Option ℤ → Result (ℤ × Unspent) Fault
take_output u prev None = Err NoInput
take_output u prev (Some value) = Ok (value, map.remove u prev)

-- the inputs in order: the sum of their values, and the UTXO set after them
unfoldable pub spend_inputs : Unspent → List TxIn → Result (ℤ × Unspent) Fault
spend_inputs u [] = Ok (pos 0, u)
spend_inputs u (input ∷ inputs) = do
  first ← take_output u input.prev (map.get u input.prev)
  others ← spend_inputs first.1 inputs
  Ok (first.0 +ℤ others.0, others.1)

-- The outputs in order, from index place on: each is added to the UTXO set. One that is already
-- unspent is refused.
unfoldable pub make_outputs : Unspent → Hash256 → ℕ → List TxOut → Result Unspent Fault
make_outputs u txid place [] = Ok u
make_outputs u txid place (output ∷ outputs) =
    let point : OutPoint = record { txid = txid; index = place } in
    if map.contains_key u point
    then Err Remade
    else make_outputs (map.insert u point output.value) txid (suc place) outputs

-- A coinbase only creates its outputs. Any other transaction spends its inputs, which must be worth
-- at least its outputs. Then it creates its outputs.
unfoldable pub spend_tx : Unspent → Tx → Result Unspent Fault
spend_tx u tx =
    let txid = double_hash (tx_text tx) in
    if is_coinbase tx.inputs then make_outputs u txid 0 tx.outputs else (do
      spent ← spend_inputs u tx.inputs
      if int_lt spent.0 (value_sum tx.outputs)
          then Err Overspent
          else make_outputs spent.1 txid 0 tx.outputs)

-- the UTXO set after the transactions, or the first fault
unfoldable pub spend : Unspent → List Tx → Result Unspent Fault
spend u [] = Ok u
spend u (tx ∷ txs) = do
  next ← spend_tx u tx
  spend next txs

-- the value that the coinbases among the transactions create
abbrev pub coinbase_value : List Tx → ℤ
coinbase_value [] = pos 0
coinbase_value (tx ∷ txs) =
    (if is_coinbase tx.inputs then value_sum tx.outputs else pos 0) +ℤ coinbase_value txs

-- A call that allocates returned what the definition says, where shows maps its value to what is
-- defined, or memory ran out.
abbrev pub Tells : {A B : Type 0} → Result A Fault → (B → A) → Result B Fault → Type 0
Tells expected shows (Ok value) = expected ≡ Ok (shows value)
Tells expected shows (Err fault) = (fault ≡ Memory) ⊎ (expected ≡ Err fault)
