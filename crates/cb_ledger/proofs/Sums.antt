-- What transactions make of all values together.
use Rattle.std.proofs.Common.{◌≡◌, ℕ, suc, ℤ, pos, ◌+ℤ◌, ◌≤ℤ◌, Bool, true, false, cond, List, [], ◌∷◌, Some, None, Option, Result, Ok, Err, refl, sym, ap, ◌∙◌, arith, fold, is_some, inl, inr}
use Rattle.std.specs.Prelude.{int_lt}
use Rattle.std.specs.FinMap as map
use Rattle.std.specs.FinMap.{find, put, entries-insert, get-entries}
use Rattle.std.specs.FinMap.Entries.{by_order}
use Rattle.std.specs.Ordering.{is_eq}
use Rattle.std.specs.declared.cmp.Ordering.{Ordering}
use Rattle.std.specs.declared.cmp.Ordering.TheVariants.{Less, Equal, Greater}
use Rattle.std.proofs.lemmas.Bool.{cases_Bool, false≢true}
use Rattle.std.proofs.lemmas.Int.{ints}
use Rattle.std.proofs.Math.IntN.{+ℤ_assoc, +ℤ_comm, +ℤ_idl, +ℤ_idr}
use Rattle.cb_base.specs.declared.fault.Fault.{Fault}
use Rattle.cb_base.specs.declared.fault.Fault.TheVariants.{Overspent, Remade}
use Rattle.cb_base.specs.declared.hash.Hash256.{Hash256}
use Rattle.cb_base.specs.DoubleHash.{double_hash}
use Rattle.cb_base.specs.Reading.{◌>>=◌}
use Rattle.cb_base.proofs.Fields.{bind_ok, ok_is}
use Rattle.cb_block.specs.declared.tx.OutPoint.{OutPoint}
use Rattle.cb_block.specs.declared.tx.TxIn.{TxIn}
use Rattle.cb_block.specs.declared.tx.TxOut.{TxOut}
use Rattle.cb_block.specs.declared.tx.Tx.{Tx}
use Rattle.cb_block.specs.TxRules.{value_sum}
use Rattle.cb_block.specs.TxText.{tx_text}
use Rattle.cb_ledger.specs.Unspent.{Unspent, outpoint_cmp, sum_of, total}
use Rattle.cb_ledger.specs.Spend.{is_coinbase, take_output, spend_inputs, make_outputs, spend_tx, spend, coinbase_value}
use Rattle.cb_ledger.proofs.Outpoints.{total_order, is_same, is_same-true, is_same-refl, maps_same, get_insert, get_remove}

-- ---- sums

swapped : (a b c : ℤ) → a +ℤ (b +ℤ c) ≡ b +ℤ (a +ℤ c)
swapped a b c = sym (+ℤ_assoc a b c) ∙ ap (λ (x : ℤ). x +ℤ c) (+ℤ_comm a b) ∙ +ℤ_assoc b a c

not_some : {A : Type 0} (x : A) → Some x ≡ None → ⊥
not_some x e = absurd (false≢true (sym (ap is_some e)))

sum_put : (k : OutPoint) (v : ℤ) (es : List (OutPoint × ℤ)) → find outpoint_cmp k es ≡ None → sum_of (put outpoint_cmp k v es) ≡ v +ℤ sum_of es
sum_put k v [] none = refl
sum_put k v (e ∷ es) none =
    elim (outpoint_cmp k e.0) as (λ (r : Ordering). cond (is_eq r) (Some e.1) (find outpoint_cmp k es) ≡ None → sum_of (by_order r ((k, v) ∷ e ∷ es) ((e.0, v) ∷ es) (e ∷ put outpoint_cmp k v es)) ≡ v +ℤ (e.1 +ℤ sum_of es)) [
      | Less ↦ λ h. refl
      | Equal ↦ λ h. absurd (not_some e.1 h)
      | Greater ↦ λ h. ap (λ (s : ℤ). e.1 +ℤ s) (sum_put k v es h) ∙ swapped e.1 v (sum_of es)
    ] none

total-insert : (u : Unspent) (k : OutPoint) (v : ℤ) → map.get u k ≡ None → total (map.insert u k v) ≡ v +ℤ total u
total-insert u k v none = ap sum_of (entries-insert total_order u k v) ∙ sum_put k v (map.entries u) (sym (get-entries u k) ∙ none)

-- what is taken out and put back is as before
put_back : (u : Unspent) (k : OutPoint) (v : ℤ) → map.get u k ≡ Some v → map.insert (map.remove u k) k v ≡ u
put_back u k v has = maps_same _ _ at where
  at : (q : OutPoint) → map.get (map.insert (map.remove u k) k v) q ≡ map.get u q
  at q =
      elim (cases_Bool (is_same q k)) [
        | inl is ↦ get_insert (map.remove u k) k v q ∙ rw is (sym has ∙ ap (map.get u) (sym (is_same-true q k is)))
        | inr isnt ↦ get_insert (map.remove u k) k v q ∙ rw isnt (get_remove u k q ∙ rw isnt refl)
      ]

total-remove : (u : Unspent) (k : OutPoint) (v : ℤ) → map.get u k ≡ Some v → total u ≡ v +ℤ total (map.remove u k)
total-remove u k v has =
    let none : map.get (map.remove u k) k ≡ None = get_remove u k k ∙ rw (is_same-refl k) refl in
    ap total (sym (put_back u k v has)) ∙ total-insert (map.remove u k) k v none

-- ---- inputs

pub taken : (u : Unspent) (k : OutPoint) (o : Option ℤ) (x : ℤ × Unspent) → take_output u k o ≡ Ok x → (o ≡ Some x.0) × (x.1 ≡ map.remove u k)
taken u k None x e = absurd cc
taken u k (Some v) x e =
    let same : (v, map.remove u k) ≡ x = ok_is (v, map.remove u k) x e in
    (ap (λ (y : ℤ × Unspent). Some y.0) same, sym (ap (λ (y : ℤ × Unspent). y.1) same))

inputs_total : (u : Unspent) (inputs : List TxIn) (x : ℤ × Unspent) → spend_inputs u inputs ≡ Ok x → total u ≡ x.0 +ℤ total x.1
unfolding spend_inputs
inputs_total u [] x e =
    let same : (pos 0, u) ≡ x = ok_is (pos 0, u) x e in
    sym (+ℤ_idl (total u)) ∙ ap (λ (y : ℤ × Unspent). y.0 +ℤ total y.1) same
inputs_total u (input ∷ inputs) x e =
    let a = bind_ok (take_output u input.prev (map.get u input.prev)) (λ first. spend_inputs first.1 inputs >>= λ others. Ok (first.0 +ℤ others.0, others.1)) x e in
    let b = bind_ok (spend_inputs a.0.1 inputs) (λ others. Ok (a.0.0 +ℤ others.0, others.1)) x a.2 in
    let t = taken u input.prev (map.get u input.prev) a.0 a.1 in
    let same : (a.0.0 +ℤ b.0.0, b.0.1) ≡ x = ok_is (a.0.0 +ℤ b.0.0, b.0.1) x b.2 in
    let rest : total a.0.1 ≡ b.0.0 +ℤ total b.0.1 = inputs_total a.0.1 inputs b.0 b.1 in
    total-remove u input.prev a.0.0 t.0 ∙ ap (λ (m : Unspent). a.0.0 +ℤ total m) (sym t.1) ∙ ap (λ (s : ℤ). a.0.0 +ℤ s) rest ∙ sym (+ℤ_assoc a.0.0 b.0.0 (total b.0.1)) ∙ ap (λ (y : ℤ × Unspent). y.0 +ℤ total y.1) same

-- ---- outputs

sum_from : (a : ℤ) (outputs : List TxOut) → fold (λ sum output. sum +ℤ output.value) a outputs ≡ a +ℤ value_sum outputs
sum_from a [] = sym (+ℤ_idr a)
sum_from a (o ∷ os) =
    sum_from (a +ℤ o.value) os ∙ +ℤ_assoc a o.value (value_sum os) ∙ ap (λ (s : ℤ). a +ℤ s) (sym (sum_from (pos 0 +ℤ o.value) os ∙ ap (λ (s : ℤ). s +ℤ value_sum os) (+ℤ_idl o.value)))

value_sum-cons : (o : TxOut) (os : List TxOut) → value_sum (o ∷ os) ≡ o.value +ℤ value_sum os
value_sum-cons o os = sum_from (pos 0 +ℤ o.value) os ∙ ap (λ (s : ℤ). s +ℤ value_sum os) (+ℤ_idl o.value)

pub test_ok : {A : Type 0} (b : Bool) (d : Fault) (r : Result A Fault) (y : A) → cond b (Err d) r ≡ Ok y → (b ≡ false) × (r ≡ Ok y)
test_ok true d r y e = absurd cc
test_ok false d r y e = (refl, e)

none_of : (o : Option ℤ) → is_some o ≡ false → o ≡ None
none_of None e = refl
none_of (Some x) e = absurd (false≢true (sym e))

outputs_total : (u : Unspent) (txid : Hash256) (place : ℕ) (outputs : List TxOut) (w : Unspent) → make_outputs u txid place outputs ≡ Ok w → total w ≡ value_sum outputs +ℤ total u
unfolding make_outputs
outputs_total u txid place [] w e = ap total (sym (ok_is u w e)) ∙ sym (+ℤ_idl (total u))
outputs_total u txid place (o ∷ os) w e =
    let point : OutPoint = record { txid = txid; index = place } in
    let t = test_ok (map.contains_key u point) Remade (make_outputs (map.insert u point o.value) txid (suc place) os) w e in
    let one : total (map.insert u point o.value) ≡ o.value +ℤ total u = total-insert u point o.value (none_of (map.get u point) t.0) in
    outputs_total (map.insert u point o.value) txid (suc place) os w t.1 ∙ ap (λ (s : ℤ). value_sum os +ℤ s) one ∙ swapped (value_sum os) o.value (total u)
    ∙ sym (+ℤ_assoc o.value (value_sum os) (total u)) ∙ ap (λ (s : ℤ). s +ℤ total u) (sym (value_sum-cons o os))

-- ---- transactions

-- what a coinbase makes
abbrev made_by : Tx → ℤ
made_by tx = cond (is_coinbase tx.inputs) (value_sum tx.outputs) (pos 0)

not_less : (a b : ℤ) → int_lt a b ≡ false → b ≤ℤ a
not_less a b e = grind (arith, ints)

coinbase_total : (v u w : ℤ) → w ≡ v +ℤ u → w ≤ℤ (u +ℤ v)
coinbase_total v u w e = omega (arith, ints)

other_total : (s v u n w : ℤ) → u ≡ s +ℤ n → w ≡ v +ℤ n → v ≤ℤ s → w ≤ℤ (u +ℤ pos 0)
other_total s v u n w e f le = omega (arith, ints)

tx_total_by : (b : Bool) (u : Unspent) (tx : Tx) (w : Unspent) → is_coinbase tx.inputs ≡ b → spend_tx u tx ≡ Ok w → total w ≤ℤ (total u +ℤ cond b (value_sum tx.outputs) (pos 0))
unfolding spend_tx
tx_total_by true u tx w is e =
    let made : make_outputs u (double_hash (tx_text tx)) 0 tx.outputs ≡ Ok w = rw is at e in
    coinbase_total (value_sum tx.outputs) (total u) (total w) (outputs_total u (double_hash (tx_text tx)) 0 tx.outputs w made)
tx_total_by false u tx w is e =
    let txid = double_hash (tx_text tx) in
    let spent : (spend_inputs u tx.inputs >>= λ s. cond (int_lt s.0 (value_sum tx.outputs)) (Err Overspent) (make_outputs s.1 txid 0 tx.outputs)) ≡ Ok w = rw is at e in
    let a = bind_ok (spend_inputs u tx.inputs) (λ s. cond (int_lt s.0 (value_sum tx.outputs)) (Err Overspent) (make_outputs s.1 txid 0 tx.outputs)) w spent in
    let t = test_ok (int_lt a.0.0 (value_sum tx.outputs)) Overspent (make_outputs a.0.1 txid 0 tx.outputs) w a.2 in
    other_total a.0.0 (value_sum tx.outputs) (total u) (total a.0.1) (total w) (inputs_total u tx.inputs a.0 a.1) (outputs_total a.0.1 txid 0 tx.outputs w t.1) (not_less a.0.0 (value_sum tx.outputs) t.0)

tx_total : (u : Unspent) (tx : Tx) (w : Unspent) → spend_tx u tx ≡ Ok w → total w ≤ℤ (total u +ℤ made_by tx)
tx_total u tx w e = tx_total_by (is_coinbase tx.inputs) u tx w refl e

both : (u m v w c : ℤ) → v ≤ℤ (u +ℤ m) → w ≤ℤ (v +ℤ c) → w ≤ℤ (u +ℤ (m +ℤ c))
both u m v w c h k = omega (arith, ints)

zero_total : (u : ℤ) → u ≤ℤ (u +ℤ pos 0)
zero_total u = omega (arith, ints)

-- no value is made but by coinbases
pub spend_total : (u w : Unspent) (txs : List Tx) → spend u txs ≡ Ok w → total w ≤ℤ (total u +ℤ coinbase_value txs)
unfolding spend
spend_total u w [] e = let same : w ≡ u = sym (ok_is u w e) in rw same (zero_total (total u))
spend_total u w (tx ∷ txs) e =
    let a = bind_ok (spend_tx u tx) (λ next. spend next txs) w e in
    both (total u) (made_by tx) (total a.0) (total w) (coinbase_value txs) (tx_total u tx a.0 a.1) (spend_total a.0 w txs a.2)
