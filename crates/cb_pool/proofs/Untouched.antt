-- Transactions that touch no output of others: what is unspent may change by these, and they can still be spent.
use Rattle.std.proofs.Common.{◌≡◌, ℕ, zero, suc, ◌+◌, ◌<◌, ◌≤◌, ℤ, pos, ◌+ℤ◌, false, true, cond, List, [], ◌∷◌, ◌++◌, length, get_or, take, None, Option, Some, Ok, Err, is_some, refl, sym, ap, subst, ◌∙◌, ◌⊎◌, arith, inl, inr}
use Rattle.std.specs.Prelude.{int_lt, nat_lt, All, IsOk}
use Rattle.std.specs.FinMap as finite
use Rattle.std.specs.Map.{lookup}
use Rattle.std.proofs.lemmas.Bool.{cases_Bool, false≢true, ltb-true, ltb-false}
use Rattle.std.proofs.lemmas.List.{take_all, take_more}
use Rattle.cb_base.specs.Reading.{◌>>=◌}
use Rattle.cb_base.specs.declared.fault.Fault.TheVariants.{Overspent, Remade}
use Rattle.cb_base.specs.declared.hash.Hash256.{Hash256}
use Rattle.cb_base.proofs.Fields.{bind_ok, ok_is}
use Rattle.cb_block.specs.declared.tx.OutPoint.{OutPoint}
use Rattle.cb_block.specs.declared.tx.Tx.{Tx}
use Rattle.cb_block.specs.declared.tx.TxIn.{TxIn}
use Rattle.cb_block.specs.declared.tx.TxOut.{TxOut}
use Rattle.cb_block.specs.TxRules.{value_sum}
use Rattle.cb_ledger.specs.Spend.{is_coinbase, make_outputs, spend, spend_inputs, spend_tx, take_output}
use Rattle.cb_block.proofs.Repeats.{same}
use Rattle.cb_ledger.specs.Undo.{changed, changes_of}
use Rattle.cb_ledger.proofs.Changes.{over, value_is}
use Rattle.cb_ledger.specs.Touched.{IsMade, IsNamed, IsSpent}
use Rattle.cb_ledger.specs.Unspent.{Unspent, outpoint_cmp}
use Rattle.cb_ledger.proofs.Outpoints.{get_insert, get_remove, is_same, is_same-refl}
use Rattle.cb_ledger.proofs.Sums.{taken, test_ok}
use Rattle.cb_ledger.proofs.Touching.{txs_keep}
use Rattle.cb_pool.specs.Leaving.{IsChanged, after_tx, after_txs, with_outputs, without_inputs}
use Rattle.cb_pool.specs.Rules.{StandsAlone}
use Rattle.cb_block.specs.Txid.{txid_of}
use Rattle.cb_pool.specs.Touching.{AreApart, IsTouched, IsTouchedBy}
use Rattle.cb_pool.proofs.Left.{insert_other, without_named, without_other}
use Rattle.cb_pool.proofs.Spent.{not_coinbase, ok_at}

-- ---- what stands at an outpoint follows from what stood there

module _ (q : OutPoint) where
  same_remove : (u v : Unspent) (k : OutPoint) → finite.get u q ≡ finite.get v q → finite.get (finite.remove u k) q ≡ finite.get (finite.remove v k) q
  same_remove u v k e = get_remove u k q ∙ ap (cond (is_same q k) None) e ∙ sym (get_remove v k q)

  same_insert : (u v : Unspent) (k : OutPoint) (x : ℤ) → finite.get u q ≡ finite.get v q → finite.get (finite.insert u k x) q ≡ finite.get (finite.insert v k x) q
  same_insert u v k x e = get_insert u k x q ∙ ap (cond (is_same q k) (Some x)) e ∙ sym (get_insert v k x q)

  pub same_without : (u v : Unspent) (inputs : List TxIn) → finite.get u q ≡ finite.get v q → finite.get (without_inputs u inputs) q ≡ finite.get (without_inputs v inputs) q
  unfolding without_inputs
  same_without u v [] e = e
  same_without u v (input ∷ inputs) e = same_without (finite.remove u input.prev) (finite.remove v input.prev) inputs (same_remove u v input.prev e)

  pub same_with : (u v : Unspent) (txid : Hash256) (place : ℕ) (outputs : List TxOut) → finite.get u q ≡ finite.get v q → finite.get (with_outputs u txid place outputs) q ≡ finite.get (with_outputs v txid place outputs) q
  unfolding with_outputs
  same_with u v txid place [] e = e
  same_with u v txid place (output ∷ outputs) e =
      let point : OutPoint = record { txid = txid; index = place } in
      same_with (finite.insert u point output.value) (finite.insert v point output.value) txid (suc place) outputs (same_insert u v point output.value e)

  pub same_after : (u v : Unspent) (txs : List Tx) → finite.get u q ≡ finite.get v q → finite.get (after_txs u txs) q ≡ finite.get (after_txs v txs) q
  unfolding after_txs
  same_after u v [] e = e
  same_after u v (tx ∷ txs) e =
      same_after (after_tx u tx) (after_tx v tx) txs (same_with (without_inputs u tx.inputs) (without_inputs v tx.inputs) (txid_of tx) 0 tx.outputs (same_without u v tx.inputs e))

  -- ---- behind what touches it the same stands there, whatever did

  pub insert_here : (u : Unspent) (k : OutPoint) (x : ℤ) → k ≡ q → finite.get (finite.insert u k x) q ≡ Some x
  insert_here u k x is = subst (λ (p : OutPoint). finite.get (finite.insert u k x) p ≡ Some x) is (get_insert u k x k ∙ rw (is_same-refl k) refl)

  fixed_with : (u v : Unspent) (txid : Hash256) (place : ℕ) (outputs : List TxOut) → q.txid ≡ txid → place ≤ q.index → q.index < place + length outputs
      → finite.get (with_outputs u txid place outputs) q ≡ finite.get (with_outputs v txid place outputs) q
  unfolding with_outputs
  fixed_with u v txid place [] name le lt = absurd (omega (arith, le, lt))
  fixed_with u v txid place (output ∷ outputs) name le lt =
      let point : OutPoint = record { txid = txid; index = place } in
      let more_u = finite.insert u point output.value in
      let more_v = finite.insert v point output.value in
      elim (cases_Bool (nat_lt place q.index)) [
        | inl above ↦ let low = ltb-true place q.index above in fixed_with more_u more_v txid (suc place) outputs name (omega (arith, low)) (omega (arith, lt))
        | inr here ↦
            let high = ltb-false place q.index here in
            let level : place ≡ q.index = omega (arith, le, high) in
            let is : point ≡ q = λ i. record { txid = sym name i; index = level i } in
            same_with more_u more_v txid (suc place) outputs (insert_here u point output.value is ∙ sym (insert_here v point output.value is))
      ]

  fixed_by : (u v : Unspent) (tx : Tx) → IsTouchedBy tx q → finite.get (after_tx u tx) q ≡ finite.get (after_tx v tx) q
  fixed_by u v tx (inl named) =
      same_with (without_inputs u tx.inputs) (without_inputs v tx.inputs) (txid_of tx) 0 tx.outputs (without_named q u tx.inputs named ∙ sym (without_named q v tx.inputs named))
  fixed_by u v tx (inr made) = fixed_with (without_inputs u tx.inputs) (without_inputs v tx.inputs) (txid_of tx) 0 tx.outputs made.0 (omega arith) (omega (arith, made.1))

  pub fixed_behind : (u v : Unspent) (txs : List Tx) → IsTouched txs q → finite.get (after_txs u txs) q ≡ finite.get (after_txs v txs) q
  unfolding after_txs
  fixed_behind u v [] touched = absurd touched
  fixed_behind u v (tx ∷ txs) (inl here) = same_after (after_tx u tx) (after_tx v tx) txs (fixed_by u v tx here)
  fixed_behind u v (tx ∷ txs) (inr later) = fixed_behind (after_tx u tx) (after_tx v tx) txs later

  -- what none of them touches stays as it was

  pub kept_with : (u : Unspent) (txid : Hash256) (place : ℕ) (outputs : List TxOut) → ¬ ((q.txid ≡ txid) × (q.index < place + length outputs)) → finite.get (with_outputs u txid place outputs) q ≡ finite.get u q
  unfolding with_outputs
  kept_with u txid place [] other = refl
  kept_with u txid place (output ∷ outputs) other =
      let point : OutPoint = record { txid = txid; index = place } in
      kept_with (finite.insert u point output.value) txid (suc place) outputs (λ both. other (both.0, omega (arith, both.1)))
      ∙ insert_other q u point output.value (λ p. other (sym (ap (λ (k : OutPoint). k.txid) p), omega (arith, ap (λ (k : OutPoint). k.index) p)))

  pub kept_behind : (u : Unspent) (txs : List Tx) → ¬ IsTouched txs q → finite.get (after_txs u txs) q ≡ finite.get u q
  unfolding after_txs
  kept_behind u [] other = refl
  kept_behind u (tx ∷ txs) other =
      kept_behind (after_tx u tx) txs (λ touched. other (inr touched))
      ∙ kept_with (without_inputs u tx.inputs) (txid_of tx) 0 tx.outputs (λ both. other (inl (inr (both.0, omega (arith, both.1)))))
      ∙ without_other q u tx.inputs (λ named. other (inl (inl named)))

  -- so what always stays as it was is touched by none
  pub untouched : (txs : List Tx) → ((u : Unspent) → finite.get (after_txs u txs) q ≡ finite.get u q) → ¬ IsTouched txs q
  untouched txs stays touched =
      let bare : Unspent = finite.empty in
      let one : Unspent = finite.insert bare q (pos 0) in
      let none : finite.get bare q ≡ None = finite.get-empty outpoint_cmp q in
      let some : finite.get one q ≡ Some (pos 0) = insert_here bare q (pos 0) refl in
      let both : None ≡ Some (pos 0) = sym none ∙ sym (stays bare) ∙ fixed_behind bare one txs touched ∙ stays one ∙ some in
      absurd (let nothing : None ≡ Some (pos 0) = both in cc)

-- ---- what is unspent, seen at some outpoints alone

-- inputs that are worth the outputs
spends_over : (v : Unspent) (tx : Tx) (sum : ℤ) (left next : Unspent) → is_coinbase tx.inputs ≡ false → spend_inputs v tx.inputs ≡ Ok (sum, left) → int_lt sum (value_sum tx.outputs) ≡ false
    → make_outputs left (txid_of tx) 0 tx.outputs ≡ Ok next → spend_tx v tx ≡ Ok next
unfolding spend_tx
spends_over v tx sum left next other spent worth made = rw (other, spent, worth) made

module _ (P : OutPoint → Type 0) where
  abbrev pub Alike : Unspent → Unspent → Type 0
  Alike u v = (q : OutPoint) → P q → finite.get u q ≡ finite.get v q

  -- inputs that can be spent over the one can be spent over the other, for as much
  record Spends (v : Unspent) (inputs : List TxIn) (x : ℤ × Unspent) : Type 0 where
    left : Unspent
    spent : spend_inputs v inputs ≡ Ok (x.0, left)
    alike : Alike x.1 left

  inputs_alike : (u v : Unspent) (inputs : List TxIn) (x : ℤ × Unspent) → ((q : OutPoint) → IsNamed inputs q → P q) → Alike u v → spend_inputs u inputs ≡ Ok x → Spends v inputs x
  unfolding spend_inputs
  inputs_alike u v [] x all alike e =
      let is : (pos 0, u) ≡ x = ok_is (pos 0, u) x e in
      record { left = v; spent = ap (λ (y : ℤ × Unspent). Ok (y.0, v)) is; alike = subst (λ (y : ℤ × Unspent). Alike y.1 v) is alike }
  inputs_alike u v (input ∷ inputs) x all alike e =
      let prev = input.prev in
      let a = bind_ok (take_output u prev (finite.get u prev)) (λ first. spend_inputs first.1 inputs >>= λ others. Ok (first.0 +ℤ others.0, others.1)) x e in
      let b = bind_ok (spend_inputs a.0.1 inputs) (λ others. Ok (a.0.0 +ℤ others.0, others.1)) x a.2 in
      let t = taken u prev (finite.get u prev) a.0 a.1 in
      let is : (a.0.0 +ℤ b.0.0, b.0.1) ≡ x = ok_is (a.0.0 +ℤ b.0.0, b.0.1) x b.2 in
      let there : finite.get v prev ≡ Some a.0.0 = sym (alike prev (all prev (inl refl))) ∙ t.0 in
      let rest =
      inputs_alike (finite.remove u prev) (finite.remove v prev) inputs b.0 (λ q named. all q (inr named)) (λ q p. same_remove q u v prev (alike q p)) (subst (λ (m : Unspent). spend_inputs m inputs ≡ Ok b.0) t.1 b.1) in
      record {
        left = rest.left;
        spent = rw (there, rest.spent) (ap (λ (y : ℤ × Unspent). Ok (y.0, rest.left)) is);
        alike = subst (λ (y : ℤ × Unspent). Alike y.1 rest.left) is rest.alike;
      }

  outputs_alike : (u v : Unspent) (txid : Hash256) (place : ℕ) (outputs : List TxOut) (w : Unspent) → ((k : ℕ) → place ≤ k → k < place + length outputs → P (record { txid = txid; index = k })) → Alike u v
      → make_outputs u txid place outputs ≡ Ok w → (left : Unspent) × (make_outputs v txid place outputs ≡ Ok left) × Alike w left
  unfolding make_outputs
  outputs_alike u v txid place [] w all alike e = (v, refl, subst (λ (m : Unspent). Alike m v) (ok_is u w e) alike)
  outputs_alike u v txid place (output ∷ outputs) w all alike e =
      let point : OutPoint = record { txid = txid; index = place } in
      let t = test_ok (finite.contains_key u point) Remade (make_outputs (finite.insert u point output.value) txid (suc place) outputs) w e in
      let new : finite.contains_key v point ≡ false = ap is_some (sym (alike point (all place (omega arith) (omega arith)))) ∙ t.0 in
      let rest =
      outputs_alike (finite.insert u point output.value) (finite.insert v point output.value) txid (suc place) outputs w (λ k le lt. all k (omega (arith, le)) (omega (arith, lt)))
      (λ q p. same_insert q u v point output.value (alike q p)) t.1 in
      (rest.0, rw new rest.1, rest.2)

  pub tx_alike : (u v : Unspent) (tx : Tx) (w : Unspent) → StandsAlone tx → ((q : OutPoint) → IsTouchedBy tx q → P q) → Alike u v → spend_tx u tx ≡ Ok w → (left : Unspent) × (spend_tx v tx ≡ Ok left) × Alike w left
  unfolding spend_tx
  tx_alike u v tx w alone all alike e =
      let txid = txid_of tx in
      let other = not_coinbase tx alone in
      let both : (spend_inputs u tx.inputs >>= λ s. cond (int_lt s.0 (value_sum tx.outputs)) (Err Overspent) (make_outputs s.1 txid 0 tx.outputs)) ≡ Ok w = rw other at e in
      let a = bind_ok (spend_inputs u tx.inputs) (λ s. cond (int_lt s.0 (value_sum tx.outputs)) (Err Overspent) (make_outputs s.1 txid 0 tx.outputs)) w both in
      let t = test_ok (int_lt a.0.0 (value_sum tx.outputs)) Overspent (make_outputs a.0.1 txid 0 tx.outputs) w a.2 in
      let spends = inputs_alike u v tx.inputs a.0 (λ q named. all q (inl named)) alike a.1 in
      let made = outputs_alike a.0.1 spends.left txid 0 tx.outputs w (λ k le lt. all (record { txid = txid; index = k }) (inr (refl, omega (arith, lt)))) spends.alike t.1 in
      (made.0, spends_over v tx a.0.0 spends.left made.0 other spends.spent t.0 made.1, made.2)

  txs_alike : (u v : Unspent) (txs : List Tx) (w : Unspent) → All StandsAlone txs → ((q : OutPoint) → IsTouched txs q → P q) → Alike u v → spend u txs ≡ Ok w → IsOk (spend v txs)
  unfolding spend
  txs_alike u v [] w alone all alike e = refl
  txs_alike u v (tx ∷ txs) w alone all alike e =
      let a = bind_ok (spend_tx u tx) (λ next. spend next txs) w e in
      let one = tx_alike u v tx a.0 (alone 0 tx (omega arith)) (λ q touched. all q (inl touched)) alike a.1 in
      rw one.1 (txs_alike a.0 one.0 txs w (λ k d lt. alone (suc k) d (omega (arith, lt))) (λ q touched. all q (inr touched)) one.2 a.2)

-- ---- a map of what has changed

pub none_of : {X : Type 0} (o : Option X) → is_some o ≡ false → o ≡ None
none_of None e = refl
none_of (Some x) e = absurd (false≢true (sym e))

-- what it doesn't have stays as it was
pub kept_at : (coins : List (OutPoint × Option ℤ)) (k : OutPoint) → is_some (lookup (same k) coins) ≡ false → (u : Unspent) → finite.get (changed u (changes_of coins)) k ≡ finite.get u k
kept_at coins k none u = value_is u coins k ∙ ap (λ (o : Option (Option ℤ)). over o (finite.get u k)) (none_of (lookup (same k) coins) none)

pub named_in : (inputs : List TxIn) (input : TxIn) (q : OutPoint) → IsNamed (inputs ++ input ∷ []) q → IsNamed inputs q ⊎ (input.prev ≡ q)
named_in [] input q (inl here) = inr here
named_in [] input q (inr later) = absurd later
named_in (first ∷ inputs) input q (inl here) = inl (inl here)
named_in (first ∷ inputs) input q (inr later) =
    elim (named_in inputs input q later) [
      | inl front ↦ inl (inr front)
      | inr back ↦ inr back
    ]

pub named_more : (inputs : List TxIn) (i : ℕ) (input : TxIn) (q : OutPoint) → i < length inputs → input ≡ get_or inputs i input → IsNamed (take (i + 1) inputs) q → IsNamed (take i inputs) q ⊎ (input.prev ≡ q)
named_more inputs i input q lt is named =
    let longer : take (i + 1) inputs ≡ take i inputs ++ input ∷ [] = take_more inputs i input lt ∙ ap (λ (x : TxIn). take i inputs ++ x ∷ []) (sym is) in
    named_in (take i inputs) input q (subst (λ (l : List TxIn). IsNamed l q) longer named)

-- what it has is seen over whatever stood there
pub changed_at : (coins : List (OutPoint × Option ℤ)) (k : OutPoint) → is_some (lookup (same k) coins) ≡ true → IsChanged coins k
changed_at coins k there = go (lookup (same k) coins) refl there where
  go : (o : Option (Option ℤ)) → lookup (same k) coins ≡ o → is_some o ≡ true → IsChanged coins k
  go None e some = absurd (false≢true some)
  go (Some value) e some = (value, λ u. value_is u coins k ∙ ap (λ (o : Option (Option ℤ)). over o (finite.get u k)) e)

-- an input of a list is named there
pub named_at : (inputs : List TxIn) (i : ℕ) (input : TxIn) → i < length inputs → input ≡ get_or inputs i input → IsNamed inputs input.prev
named_at [] i input lt is = absurd (omega (arith, lt))
named_at (first ∷ inputs) zero input lt is = inl (ap (λ (x : TxIn). x.prev) (sym is))
named_at (first ∷ inputs) (suc i) input lt is = inr (named_at inputs i input (omega (arith, lt)) is)

-- ---- transactions apart

spent_touched : (txs : List Tx) (q : OutPoint) → IsSpent txs q → IsTouched txs q
spent_touched [] q spent = absurd spent
spent_touched (tx ∷ txs) q (inl here) = inl (inl here.1)
spent_touched (tx ∷ txs) q (inr later) = inr (spent_touched txs q later)

made_touched : (txs : List Tx) (q : OutPoint) → IsMade txs q → IsTouched txs q
made_touched [] q made = absurd made
made_touched (tx ∷ txs) q (inl here) = inl (inr here)
made_touched (tx ∷ txs) q (inr later) = inr (made_touched txs q later)

-- What can be spent can be spent behind others that it is apart from.
pub apart_stays : (u w : Unspent) (txs others : List Tx) → All StandsAlone txs → AreApart txs others → spend u others ≡ Ok w → IsOk (spend u txs) → IsOk (spend w txs)
apart_stays u w txs others alone apart spent ok =
    let whole = ok_at (spend u txs) ok in
    txs_alike (IsTouched txs) u w txs whole.0 alone (λ q touched. touched)
    (λ q touched. sym (txs_keep q u w others spent (λ s. apart q touched (spent_touched others q s)) (λ m. apart q touched (made_touched others q m)))) whole.1

-- what stays as it was behind a pool's transactions is touched by none of them
pub apart_from : (txs : List Tx) (coins : List (OutPoint × Option ℤ)) (tx : Tx) → ((u : Unspent) → changed u (changes_of coins) ≡ after_txs u txs)
    → ((u : Unspent) (q : OutPoint) → IsTouchedBy tx q → finite.get (changed u (changes_of coins)) q ≡ finite.get u q) → AreApart txs (tx ∷ [])
apart_from txs coins tx after keeps q touched (inl here) = untouched q txs (λ u. ap (λ (m : Unspent). finite.get m q) (sym (after u)) ∙ keeps u q here) touched
apart_from txs coins tx after keeps q touched (inr later) = absurd later

-- and what is seen to have changed is touched by one of them
pub apart_seen : (txs : List Tx) (coins : List (OutPoint × Option ℤ)) (tx : Tx) → ((u : Unspent) → changed u (changes_of coins) ≡ after_txs u txs) → (q : OutPoint) → IsTouchedBy tx q → IsChanged coins q
    → ¬ AreApart txs (tx ∷ [])
apart_seen txs coins tx after q here seen apart =
    let other : ¬ IsTouched txs q = λ touched. apart q touched (inl here) in
    let bare : Unspent = finite.empty in
    let one : Unspent = finite.insert bare q (pos 0) in
    let none : finite.get bare q ≡ None = finite.get-empty outpoint_cmp q in
    let some : finite.get one q ≡ Some (pos 0) = insert_here q bare q (pos 0) refl in
    let stays : (u : Unspent) → finite.get u q ≡ seen.0 = λ u. sym (kept_behind q u txs other) ∙ ap (λ (m : Unspent). finite.get m q) (sym (after u)) ∙ seen.1 u in
    let both : None ≡ Some (pos 0) = sym none ∙ stays bare ∙ sym (stays one) ∙ some in
    absurd (let nothing : None ≡ Some (pos 0) = both in cc)

-- ---- one more

pub touched_in : (txs others : List Tx) (q : OutPoint) → IsTouched (txs ++ others) q → IsTouched txs q ⊎ IsTouched others q
touched_in [] others q touched = inr touched
touched_in (tx ∷ txs) others q (inl here) = inl (inl here)
touched_in (tx ∷ txs) others q (inr later) =
    elim (touched_in txs others q later) [
      | inl front ↦ inl (inr front)
      | inr back ↦ inr back
    ]

pub apart_more : (txs others : List Tx) (place : ℕ) (tx : Tx) → place < length others → tx ≡ get_or others place tx → AreApart txs (take place others) → AreApart txs (tx ∷ []) → AreApart txs (take (place + 1) others)
apart_more txs others place tx lt is so_far one = λ q touched more.
    let longer : take (place + 1) others ≡ take place others ++ tx ∷ [] = take_more others place tx lt ∙ ap (λ (t : Tx). take place others ++ t ∷ []) (sym is) in
    elim (touched_in (take place others) (tx ∷ []) q (subst (λ (l : List Tx). IsTouched l q) longer more)) [
      | inl front ↦ so_far q touched front
      | inr back ↦ one q touched back
    ]

pub apart_all : (txs others : List Tx) (place : ℕ) → length others ≤ place → AreApart txs (take place others) → AreApart txs others
apart_all txs others place le apart = subst (AreApart txs) (take_all place others le) apart

touched_from : (others : List Tx) (place : ℕ) (tx : Tx) (q : OutPoint) → place < length others → tx ≡ get_or others place tx → IsTouchedBy tx q → IsTouched others q
touched_from [] place tx q lt is here = absurd (omega (arith, lt))
touched_from (first ∷ others) zero tx q lt is here = inl (subst (λ (t : Tx). IsTouchedBy t q) is here)
touched_from (first ∷ others) (suc place) tx q lt is here = inr (touched_from others place tx q (omega (arith, lt)) is here)

-- what is apart from all is apart from each
pub apart_at : (txs others : List Tx) (place : ℕ) (tx : Tx) → place < length others → tx ≡ get_or others place tx → AreApart txs others → AreApart txs (tx ∷ [])
apart_at txs others place tx lt is apart q touched (inl here) = apart q touched (touched_from others place tx q lt is here)
apart_at txs others place tx lt is apart q touched (inr later) = absurd later
