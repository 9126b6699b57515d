-- Spending transactions behind others: what they leave, and why one of them can't be spent.
use Rattle.std.proofs.Common.{◌≡◌, ℕ, suc, ℤ, pos, ◌+ℤ◌, false, cond, List, [], ◌∷◌, ◌++◌, Ok, Err, Result, refl, sym, ap, ◌∙◌, inl, inr}
use Rattle.std.specs.Prelude.{int_lt, IsOk, ◌<ℤ◌, ◌≤ℤ◌}
use Rattle.std.specs.List.{AllByRecursion}
use Rattle.std.specs.FinMap as finite
use Rattle.std.proofs.lemmas.Bool.{cases_Bool, false≢true}
use Rattle.cb_base.specs.Reading.{◌>>=◌}
use Rattle.cb_base.specs.declared.fault.Fault.{Fault}
use Rattle.cb_base.specs.declared.fault.Fault.TheVariants.{NoInput, Overspent, Remade}
use Rattle.cb_base.specs.declared.hash.Hash256.{Hash256}
use Rattle.cb_base.proofs.Fields.{bind_ok, ok_is}
use Rattle.cb_block.specs.declared.tx.OutPoint.{OutPoint}
use Rattle.cb_block.specs.declared.tx.TxIn.{TxIn}
use Rattle.cb_block.specs.declared.tx.TxOut.{TxOut}
use Rattle.cb_block.specs.declared.tx.Tx.{Tx}
use Rattle.cb_block.specs.TxRules.{value_sum}
use Rattle.cb_ledger.specs.Spend.{is_coinbase, make_outputs, spend, spend_inputs, spend_tx, take_output}
use Rattle.cb_ledger.specs.Unspent.{Unspent}
use Rattle.cb_ledger.proofs.Sums.{taken, test_ok}
use Rattle.cb_ledger.proofs.Txs.{is_coinbase-true, spend-append, tx_other, tx_overspent}
use Rattle.cb_pool.specs.declared.members.Pooled.{Pooled}
use Rattle.cb_pool.specs.Leaving.{after_tx, after_txs, with_outputs, without_inputs}
use Rattle.cb_pool.specs.Listing.{txs_of}
use Rattle.cb_pool.specs.Rules.{StandsAlone}
use Rattle.cb_block.specs.Txid.{txid_of}

-- ---- what is left

pub inputs_leave : (u : Unspent) (inputs : List TxIn) (x : ℤ × Unspent) → spend_inputs u inputs ≡ Ok x → x.1 ≡ without_inputs u inputs
unfolding spend_inputs without_inputs
inputs_leave u [] x e = let is : (pos 0, u) ≡ x = ok_is (pos 0, u) x e in ap (λ (y : ℤ × Unspent). y.1) (sym is)
inputs_leave u (input ∷ inputs) x e =
    let a = bind_ok (take_output u input.prev (finite.get u input.prev)) (λ first. spend_inputs first.1 inputs >>= λ others. Ok (first.0 +ℤ others.0, others.1)) x e in
    let b = bind_ok (spend_inputs a.0.1 inputs) (λ others. Ok (a.0.0 +ℤ others.0, others.1)) x a.2 in
    let t = taken u input.prev (finite.get u input.prev) a.0 a.1 in
    let is : (a.0.0 +ℤ b.0.0, b.0.1) ≡ x = ok_is (a.0.0 +ℤ b.0.0, b.0.1) x b.2 in
    ap (λ (y : ℤ × Unspent). y.1) (sym is) ∙ inputs_leave a.0.1 inputs b.0 b.1 ∙ ap (λ (m : Unspent). without_inputs m inputs) t.1

pub outputs_leave : (u : Unspent) (txid : Hash256) (place : ℕ) (outputs : List TxOut) (w : Unspent) → make_outputs u txid place outputs ≡ Ok w → w ≡ with_outputs u txid place outputs
unfolding make_outputs with_outputs
outputs_leave u txid place [] w e = sym (ok_is u w e)
outputs_leave u txid place (output ∷ outputs) w e =
    let point : OutPoint = record { txid = txid; index = place } in
    let t = test_ok (finite.contains_key u point) Remade (make_outputs (finite.insert u point output.value) txid (suc place) outputs) w e in
    outputs_leave (finite.insert u point output.value) txid (suc place) outputs w t.1

pub not_coinbase : (tx : Tx) → StandsAlone tx → is_coinbase tx.inputs ≡ false
not_coinbase tx alone =
    elim (cases_Bool (is_coinbase tx.inputs)) [
      | inl is ↦ absurd (alone.ordinary (is_coinbase-true tx.inputs is))
      | inr isnt ↦ isnt
    ]

pub tx_leaves : (u : Unspent) (tx : Tx) (w : Unspent) → is_coinbase tx.inputs ≡ false → spend_tx u tx ≡ Ok w → w ≡ after_tx u tx
unfolding spend_tx
tx_leaves u tx w isnt e =
    let txid = txid_of tx in
    let both : (spend_inputs u tx.inputs >>= λ s. cond (int_lt s.0 (value_sum tx.outputs)) (Err Overspent) (make_outputs s.1 txid 0 tx.outputs)) ≡ Ok w = rw isnt at e in
    let a = bind_ok (spend_inputs u tx.inputs) (λ s. cond (int_lt s.0 (value_sum tx.outputs)) (Err Overspent) (make_outputs s.1 txid 0 tx.outputs)) w both in
    let t = test_ok (int_lt a.0.0 (value_sum tx.outputs)) Overspent (make_outputs a.0.1 txid 0 tx.outputs) w a.2 in
    outputs_leave a.0.1 txid 0 tx.outputs w t.1 ∙ ap (λ (m : Unspent). with_outputs m txid 0 tx.outputs) (inputs_leave u tx.inputs a.0 a.1)

-- transactions that aren't coinbases leave this
pub txs_leave : (u w : Unspent) (list : List Pooled) → AllByRecursion (λ (pooled : Pooled). StandsAlone pooled.tx) list → spend u (txs_of list) ≡ Ok w → w ≡ after_txs u (txs_of list)
unfolding spend after_txs
txs_leave u w [] alone e = sym (ok_is u w e)
txs_leave u w (pooled ∷ list) alone e =
    let a = bind_ok (spend_tx u pooled.tx) (λ next. spend next (txs_of list)) w e in
    txs_leave a.0 w list alone.1 a.2 ∙ ap (λ (m : Unspent). after_txs m (txs_of list)) (tx_leaves u pooled.tx a.0 (not_coinbase pooled.tx alone.0) a.1)

-- one more
pub after_more : (u : Unspent) (txs : List Tx) (tx : Tx) → after_txs u (txs ++ tx ∷ []) ≡ after_tx (after_txs u txs) tx
unfolding after_txs
after_more u [] tx = refl
after_more u (first ∷ txs) tx = after_more (after_tx u first) txs tx

-- ---- one transaction

pub lacks_input : (u : Unspent) (tx : Tx) (inputs : List TxIn) → StandsAlone tx → inputs ≡ tx.inputs → spend_inputs u inputs ≡ Err NoInput → spend_tx u tx ≡ Err NoInput
unfolding spend_tx
lacks_input u tx inputs alone are h =
    let one : spend_inputs u tx.inputs ≡ Err NoInput = ap (spend_inputs u) (sym are) ∙ h in
    rw (not_coinbase tx alone, one) refl

pub overspends : (u : Unspent) (tx : Tx) (inputs : List TxIn) (sum made : ℤ) (next : Unspent) → StandsAlone tx → inputs ≡ tx.inputs → spend_inputs u inputs ≡ Ok (sum, next)
    → made ≡ value_sum tx.outputs → sum <ℤ made → spend_tx u tx ≡ Err Overspent
overspends u tx inputs sum made next alone are h made_is lt = tx_overspent u tx inputs sum made next (not_coinbase tx alone) are h made_is lt

pub makes : (u : Unspent) (tx : Tx) (txid : Hash256) (inputs : List TxIn) (outputs : List TxOut) (sum made : ℤ) (result : Result Unspent Fault) → StandsAlone tx → txid ≡ txid_of tx
    → inputs ≡ tx.inputs → outputs ≡ tx.outputs → spend_inputs u inputs ≡ Ok (sum, without_inputs u inputs) → made ≡ value_sum tx.outputs → made ≤ℤ sum
    → make_outputs (without_inputs u inputs) txid 0 outputs ≡ result → spend_tx u tx ≡ result
makes u tx txid inputs outputs sum made result alone name are outs h made_is le made_to =
    tx_other u tx txid inputs outputs sum made (without_inputs u inputs) (not_coinbase tx alone) name are outs h made_is le ∙ made_to

-- what is left where outputs are of this transaction
pub left_is : (u : Unspent) (tx : Tx) (txid : Hash256) (inputs : List TxIn) (outputs : List TxOut) → txid ≡ txid_of tx → inputs ≡ tx.inputs → outputs ≡ tx.outputs
    → with_outputs (without_inputs u inputs) txid 0 outputs ≡ after_tx u tx
left_is u tx txid inputs outputs name are outs = rw (name, are, outs) refl

-- ---- one behind others

pub ok_at : (r : Result Unspent Fault) → IsOk r → (w : Unspent) × (r ≡ Ok w)
ok_at (Ok w) h = (w, refl)
ok_at (Err fault) h = absurd (false≢true h)

-- the transactions of a list that applies leave what its changes make
pub applied : (u : Unspent) (list : List Pooled) → AllByRecursion (λ (pooled : Pooled). StandsAlone pooled.tx) list → IsOk (spend u (txs_of list)) → spend u (txs_of list) ≡ Ok (after_txs u (txs_of list))
applied u list alone ok = let a = ok_at (spend u (txs_of list)) ok in a.1 ∙ ap Ok (txs_leave u a.0 list alone a.1)

only : (u : Unspent) (tx : Tx) (r : Result Unspent Fault) → spend_tx u tx ≡ r → spend u (tx ∷ []) ≡ r
unfolding spend
only u tx (Ok w) e = rw e refl
only u tx (Err fault) e = rw e refl

pub behind : (u v : Unspent) (list : List Pooled) (tx : Tx) (r : Result Unspent Fault) → AllByRecursion (λ (pooled : Pooled). StandsAlone pooled.tx) list → IsOk (spend u (txs_of list))
    → v ≡ after_txs u (txs_of list) → spend_tx v tx ≡ r → spend u (txs_of list ++ tx ∷ []) ≡ r
behind u v list tx r alone ok are e =
    spend-append u (after_txs u (txs_of list)) (txs_of list) (tx ∷ []) (applied u list alone ok)
    ∙ only (after_txs u (txs_of list)) tx r (ap (λ (m : Unspent). spend_tx m tx) (sym are) ∙ e)
