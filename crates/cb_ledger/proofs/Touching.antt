-- What transactions leave at an outpoint that none of them makes.
use Rattle.std.proofs.Common.{◌≡◌, ℕ, suc, ◌+◌, ◌<◌, ◌≤◌, ℤ, pos, ◌+ℤ◌, true, false, cond, List, [], ◌∷◌, length, Some, None, Option, Ok, Err, refl, sym, ap, subst, ◌∙◌, arith, is_some, inl, inr}
use Rattle.std.specs.Prelude.{◌≢◌, int_lt}
use Rattle.std.specs.FinMap as map
use Rattle.std.proofs.lemmas.Bool.{cases_Bool, false≢true}
use Rattle.cb_base.specs.declared.fault.Fault.TheVariants.{Overspent, Remade}
use Rattle.cb_base.specs.declared.hash.Hash256.{Hash256}
use Rattle.cb_base.specs.DoubleHash.{double_hash}
use Rattle.cb_base.specs.Reading.{◌>>=◌}
use Rattle.cb_base.proofs.Fields.{bind_ok, ok_is}
use Rattle.cb_block.specs.declared.tx.OutPoint.{OutPoint}
use Rattle.cb_block.specs.declared.tx.TxIn.{TxIn}
use Rattle.cb_block.specs.declared.tx.TxOut.{TxOut}
use Rattle.cb_block.specs.declared.tx.Tx.{Tx}
use Rattle.cb_block.specs.TxRules.{value_sum}
use Rattle.cb_block.specs.TxText.{tx_text}
use Rattle.cb_ledger.specs.Unspent.{Unspent}
use Rattle.cb_ledger.specs.Spend.{is_coinbase, take_output, spend_inputs, make_outputs, spend_tx, spend}
use Rattle.cb_ledger.specs.Touched.{IsNamed, IsSpent, IsMade}
use Rattle.cb_ledger.proofs.Outpoints.{is_same, is_same-true, is_same-refl, get_insert, get_remove}
use Rattle.cb_ledger.proofs.Sums.{taken, test_ok}

module _ (q : OutPoint) where
  -- taking out another one changes nothing here
  remove_other : (u : Unspent) (k : OutPoint) → k ≢ q → map.get (map.remove u k) q ≡ map.get u q
  remove_other u k differs =
      elim (cases_Bool (is_same q k)) [
        | inl is ↦ absurd (differs (sym (is_same-true q k is)))
        | inr isnt ↦ get_remove u k q ∙ rw isnt refl
      ]

  insert_other : (u : Unspent) (k : OutPoint) (v : ℤ) → k ≢ q → map.get (map.insert u k v) q ≡ map.get u q
  insert_other u k v differs =
      elim (cases_Bool (is_same q k)) [
        | inl is ↦ absurd (differs (sym (is_same-true q k is)))
        | inr isnt ↦ get_insert u k v q ∙ rw isnt refl
      ]

  remove_none : (u : Unspent) (k : OutPoint) → map.get u q ≡ None → map.get (map.remove u k) q ≡ None
  remove_none u k none =
      elim (cases_Bool (is_same q k)) [
        | inl is ↦ get_remove u k q ∙ rw is refl
        | inr isnt ↦ get_remove u k q ∙ rw isnt none
      ]

  -- ---- inputs

  -- an input after which there is a rest: what it left
  record First (u : Unspent) (input : TxIn) (inputs : List TxIn) (x : ℤ × Unspent) : Type 0 where
    value : ℤ
    had : map.get u input.prev ≡ Some value
    rest : ℤ × Unspent
    spent : spend_inputs (map.remove u input.prev) inputs ≡ Ok rest
    left : rest.1 ≡ x.1

  first : (u : Unspent) (input : TxIn) (inputs : List TxIn) (x : ℤ × Unspent) → spend_inputs u (input ∷ inputs) ≡ Ok x → First u input inputs x
  unfolding spend_inputs
  first u input inputs x e =
      let a = bind_ok (take_output u input.prev (map.get u input.prev)) (λ first. spend_inputs first.1 inputs >>= λ others. Ok (first.0 +ℤ others.0, others.1)) x e in
      let b = bind_ok (spend_inputs a.0.1 inputs) (λ others. Ok (a.0.0 +ℤ others.0, others.1)) x a.2 in
      let t = taken u input.prev (map.get u input.prev) a.0 a.1 in
      let same : (a.0.0 +ℤ b.0.0, b.0.1) ≡ x = ok_is (a.0.0 +ℤ b.0.0, b.0.1) x b.2 in
      record {
        value = a.0.0;
        had = t.0;
        rest = b.0;
        spent = subst (λ (m : Unspent). spend_inputs m inputs ≡ Ok b.0) t.1 b.1;
        left = ap (λ (y : ℤ × Unspent). y.1) same;
      }

  inputs_keep : (u : Unspent) (inputs : List TxIn) (x : ℤ × Unspent) → spend_inputs u inputs ≡ Ok x → ¬ IsNamed inputs q → map.get x.1 q ≡ map.get u q
  unfolding spend_inputs
  inputs_keep u [] x e not_named = let same : (pos 0, u) ≡ x = ok_is (pos 0, u) x e in ap (λ (y : ℤ × Unspent). map.get y.1 q) (sym same)
  inputs_keep u (input ∷ inputs) x e not_named =
      let f = first u input inputs x e in
      ap (λ (m : Unspent). map.get m q) (sym f.left) ∙ inputs_keep (map.remove u input.prev) inputs f.rest f.spent (λ n. not_named (inr n)) ∙ remove_other u input.prev (λ p. not_named (inl p))

  inputs_none : (u : Unspent) (inputs : List TxIn) (x : ℤ × Unspent) → spend_inputs u inputs ≡ Ok x → map.get u q ≡ None → map.get x.1 q ≡ None
  unfolding spend_inputs
  inputs_none u [] x e none = let same : (pos 0, u) ≡ x = ok_is (pos 0, u) x e in ap (λ (y : ℤ × Unspent). map.get y.1 q) (sym same) ∙ none
  inputs_none u (input ∷ inputs) x e none =
      let f = first u input inputs x e in
      ap (λ (m : Unspent). map.get m q) (sym f.left) ∙ inputs_none (map.remove u input.prev) inputs f.rest f.spent (remove_none u input.prev none)

  not_none : {v : ℤ} (o : Option ℤ) → o ≡ Some v → o ≢ None
  not_none o is none = false≢true (sym (ap is_some none) ∙ ap is_some is)

  pub inputs_take : (u : Unspent) (inputs : List TxIn) (x : ℤ × Unspent) → spend_inputs u inputs ≡ Ok x → IsNamed inputs q → (map.get u q ≢ None) × (map.get x.1 q ≡ None)
  inputs_take u [] x e named = absurd named
  inputs_take u (input ∷ inputs) x e (inl here) =
      let f = first u input inputs x e in
      let gone : map.get (map.remove u input.prev) q ≡ None = subst (λ (k : OutPoint). map.get (map.remove u input.prev) k ≡ None) here (get_remove u input.prev input.prev ∙ rw (is_same-refl input.prev) refl) in
      let there : map.get u q ≡ Some f.value = subst (λ (k : OutPoint). map.get u k ≡ Some f.value) here f.had in
      (not_none (map.get u q) there, ap (λ (m : Unspent). map.get m q) (sym f.left) ∙ inputs_none (map.remove u input.prev) inputs f.rest f.spent gone)
  inputs_take u (input ∷ inputs) x e (inr later) =
      let f = first u input inputs x e in
      let h = inputs_take (map.remove u input.prev) inputs f.rest f.spent later in
      (λ none. h.0 (remove_none u input.prev none), ap (λ (m : Unspent). map.get m q) (sym f.left) ∙ h.1)

  -- ---- outputs

  outputs_keep : (u : Unspent) (txid : Hash256) (place : ℕ) (outputs : List TxOut) (w : Unspent) → make_outputs u txid place outputs ≡ Ok w
      → (q.txid ≡ txid → place ≤ q.index → q.index < place + length outputs → ⊥) → map.get w q ≡ map.get u q
  unfolding make_outputs
  outputs_keep u txid place [] w e other = ap (λ (m : Unspent). map.get m q) (sym (ok_is u w e))
  outputs_keep u txid place (o ∷ os) w e other =
      let point : OutPoint = record { txid = txid; index = place } in
      let t = test_ok (map.contains_key u point) Remade (make_outputs (map.insert u point o.value) txid (suc place) os) w e in
      outputs_keep (map.insert u point o.value) txid (suc place) os w t.1 (λ p le lt. other p (omega arith) (omega arith))
      ∙ insert_other u point o.value (λ p. other (sym (ap (λ (k : OutPoint). k.txid) p)) (omega (arith, ap (λ (k : OutPoint). k.index) p)) (omega (arith, ap (λ (k : OutPoint). k.index) p)))

  -- ---- transactions

  -- what a transaction that is no coinbase did: it spent its inputs, and made its outputs
  pub record Two (u : Unspent) (tx : Tx) (w : Unspent) : Type 0 where
    pub rest : ℤ × Unspent
    pub spent : spend_inputs u tx.inputs ≡ Ok rest
    pub made : make_outputs rest.1 (double_hash (tx_text tx)) 0 tx.outputs ≡ Ok w

  one : (u : Unspent) (tx : Tx) (w : Unspent) → is_coinbase tx.inputs ≡ true → spend_tx u tx ≡ Ok w → make_outputs u (double_hash (tx_text tx)) 0 tx.outputs ≡ Ok w
  unfolding spend_tx
  one u tx w is e = rw is at e

  pub two : (u : Unspent) (tx : Tx) (w : Unspent) → is_coinbase tx.inputs ≡ false → spend_tx u tx ≡ Ok w → Two u tx w
  unfolding spend_tx
  two u tx w is e =
      let txid = double_hash (tx_text tx) in
      let both : (spend_inputs u tx.inputs >>= λ s. cond (int_lt s.0 (value_sum tx.outputs)) (Err Overspent) (make_outputs s.1 txid 0 tx.outputs)) ≡ Ok w = rw is at e in
      let a = bind_ok (spend_inputs u tx.inputs) (λ s. cond (int_lt s.0 (value_sum tx.outputs)) (Err Overspent) (make_outputs s.1 txid 0 tx.outputs)) w both in
      let t = test_ok (int_lt a.0.0 (value_sum tx.outputs)) Overspent (make_outputs a.0.1 txid 0 tx.outputs) w a.2 in
      record { rest = a.0; spent = a.1; made = t.1 }

  outputs_other : (u : Unspent) (tx : Tx) (txs : List Tx) (w : Unspent) → make_outputs u (double_hash (tx_text tx)) 0 tx.outputs ≡ Ok w → ¬ IsMade (tx ∷ txs) q → map.get w q ≡ map.get u q
  outputs_other u tx txs w e not_made = outputs_keep u (double_hash (tx_text tx)) 0 tx.outputs w e (λ p le lt. not_made (inl (p, omega (arith, lt))))

  tx_keeps : (u : Unspent) (tx : Tx) (txs : List Tx) (w : Unspent) → spend_tx u tx ≡ Ok w → ¬ IsSpent (tx ∷ txs) q → ¬ IsMade (tx ∷ txs) q → map.get w q ≡ map.get u q
  tx_keeps u tx txs w e not_spent not_made =
      elim (cases_Bool (is_coinbase tx.inputs)) [
        | inl is ↦ outputs_other u tx txs w (one u tx w is e) not_made
        | inr isnt ↦
            let t = two u tx w isnt e in
            outputs_other t.rest.1 tx txs w t.made not_made ∙ inputs_keep u tx.inputs t.rest t.spent (λ n. not_spent (inl (isnt, n)))
      ]

  tx_none : (u : Unspent) (tx : Tx) (txs : List Tx) (w : Unspent) → spend_tx u tx ≡ Ok w → ¬ IsMade (tx ∷ txs) q → map.get u q ≡ None → map.get w q ≡ None
  tx_none u tx txs w e not_made none =
      elim (cases_Bool (is_coinbase tx.inputs)) [
        | inl is ↦ outputs_other u tx txs w (one u tx w is e) not_made ∙ none
        | inr isnt ↦
            let t = two u tx w isnt e in
            outputs_other t.rest.1 tx txs w t.made not_made ∙ inputs_none u tx.inputs t.rest t.spent none
      ]

  tx_takes : (u : Unspent) (tx : Tx) (txs : List Tx) (w : Unspent) → spend_tx u tx ≡ Ok w → is_coinbase tx.inputs ≡ false → IsNamed tx.inputs q → ¬ IsMade (tx ∷ txs) q → (map.get u q ≢ None) × (map.get w q ≡ None)
  tx_takes u tx txs w e isnt named not_made =
      let t = two u tx w isnt e in
      let h = inputs_take u tx.inputs t.rest t.spent named in
      (h.0, outputs_other t.rest.1 tx txs w t.made not_made ∙ h.1)

  pub txs_keep : (u w : Unspent) (txs : List Tx) → spend u txs ≡ Ok w → ¬ IsSpent txs q → ¬ IsMade txs q → map.get w q ≡ map.get u q
  unfolding spend
  txs_keep u w [] e not_spent not_made = ap (λ (m : Unspent). map.get m q) (sym (ok_is u w e))
  txs_keep u w (tx ∷ txs) e not_spent not_made =
      let a = bind_ok (spend_tx u tx) (λ next. spend next txs) w e in
      txs_keep a.0 w txs a.2 (λ s. not_spent (inr s)) (λ m. not_made (inr m)) ∙ tx_keeps u tx txs a.0 a.1 not_spent not_made

  pub txs_none : (u w : Unspent) (txs : List Tx) → spend u txs ≡ Ok w → ¬ IsMade txs q → map.get u q ≡ None → map.get w q ≡ None
  unfolding spend
  txs_none u w [] e not_made none = ap (λ (m : Unspent). map.get m q) (sym (ok_is u w e)) ∙ none
  txs_none u w (tx ∷ txs) e not_made none =
      let a = bind_ok (spend_tx u tx) (λ next. spend next txs) w e in
      txs_none a.0 w txs a.2 (λ m. not_made (inr m)) (tx_none u tx txs a.0 a.1 not_made none)

  pub txs_take : (u w : Unspent) (txs : List Tx) → spend u txs ≡ Ok w → IsSpent txs q → ¬ IsMade txs q → (map.get u q ≢ None) × (map.get w q ≡ None)
  unfolding spend
  txs_take u w [] e spent not_made = absurd spent
  txs_take u w (tx ∷ txs) e (inl here) not_made =
      let a = bind_ok (spend_tx u tx) (λ next. spend next txs) w e in
      let h = tx_takes u tx txs a.0 a.1 here.0 here.1 not_made in
      (h.0, txs_none a.0 w txs a.2 (λ m. not_made (inr m)) h.1)
  txs_take u w (tx ∷ txs) e (inr later) not_made =
      let a = bind_ok (spend_tx u tx) (λ next. spend next txs) w e in
      let h = txs_take a.0 w txs a.2 later (λ m. not_made (inr m)) in
      (λ none. h.0 (tx_none u tx txs a.0 a.1 not_made none), h.1)
