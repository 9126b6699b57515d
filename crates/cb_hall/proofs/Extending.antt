-- Spending over more than was unspent: what can be spent in turn can be spent there too, or an output is made again.
use Rattle.std.proofs.Common.{◌≡◌, ℕ, suc, ℤ, pos, ◌+ℤ◌, Bool, true, false, cond, List, [], ◌∷◌, ◌++◌, Some, None, Option, Result, Ok, Err, is_some, refl, sym, ap, subst, ◌∙◌, ◌⊎◌, inl, inr, arith}
use Rattle.std.specs.Prelude.{int_lt, All, Any, IsOk}
use Rattle.std.specs.FinMap as finite
use Rattle.std.proofs.lemmas.Bool.{cases_Bool, false≢true}
use Rattle.cb_base.specs.Reading.{◌>>=◌}
use Rattle.cb_base.specs.declared.fault.Fault.{Fault}
use Rattle.cb_base.specs.declared.fault.Fault.TheVariants.{Overspent, Remade}
use Rattle.cb_base.specs.declared.hash.Hash256.{Hash256}
use Rattle.cb_base.proofs.Fields.{bind_ok, ok_is}
use Rattle.cb_block.specs.declared.tx.OutPoint.{OutPoint}
use Rattle.cb_block.specs.declared.tx.TxIn.{TxIn}
use Rattle.cb_block.specs.declared.tx.TxOut.{TxOut}
use Rattle.cb_block.specs.declared.tx.Tx.{Tx}
use Rattle.cb_block.specs.TxRules.{IsCoinbase, value_sum}
use Rattle.cb_ledger.specs.Spend.{is_coinbase, make_outputs, spend, spend_inputs, spend_tx, take_output}
use Rattle.cb_ledger.specs.Unspent.{Unspent}
use Rattle.cb_ledger.proofs.Outpoints.{get_insert, get_remove, is_same, is_same-true}
use Rattle.cb_ledger.proofs.Sums.{taken, test_ok}
use Rattle.cb_block.specs.Txid.{txid_of}
use Rattle.cb_hall.specs.MinedBlock.{IsMadeAgain, first_output}

-- ---- more unspent outputs

-- What the first has the second has too. What the second has beyond that are outputs of a transaction of this name.
pub record IsMore (name : Hash256) (u v : Unspent) : Type 0 where
  pub kept : (q : OutPoint) (x : ℤ) → finite.get u q ≡ Some x → finite.get v q ≡ Some x
  pub only : (q : OutPoint) → finite.contains_key v q ≡ true → finite.contains_key u q ≡ false → q.txid ≡ name

kept_without : (b : Bool) (o p : Option ℤ) → ((x : ℤ) → o ≡ Some x → p ≡ Some x) → (x : ℤ) → cond b None o ≡ Some x → cond b None p ≡ Some x
kept_without true o p h x e = e
kept_without false o p h x e = h x e

only_without : {P : Type 0} (b : Bool) (o p : Option ℤ) → (is_some p ≡ true → is_some o ≡ false → P) → is_some (cond b None p) ≡ true → is_some (cond b None o) ≡ false → P
only_without true o p h e f = absurd (false≢true e)
only_without false o p h e f = h e f

-- an output of both is spent
more_without : (name : Hash256) (u v : Unspent) (k : OutPoint) → IsMore name u v → IsMore name (finite.remove u k) (finite.remove v k)
more_without name u v k more = record {
  kept = λ q x e. get_remove v k q ∙ kept_without (is_same q k) (finite.get u q) (finite.get v q) (more.kept q) x (sym (get_remove u k q) ∙ e);
  only = λ q e f. only_without (is_same q k) (finite.get u q) (finite.get v q) (more.only q) (sym (ap is_some (get_remove v k q)) ∙ e) (sym (ap is_some (get_remove u k q)) ∙ f);
}

kept_with : (b : Bool) (value : ℤ) (o p : Option ℤ) → ((x : ℤ) → o ≡ Some x → p ≡ Some x) → (x : ℤ) → cond b (Some value) o ≡ Some x → cond b (Some value) p ≡ Some x
kept_with true value o p h x e = e
kept_with false value o p h x e = h x e

only_with : {P : Type 0} (b : Bool) (value : ℤ) (o p : Option ℤ) → (is_some p ≡ true → is_some o ≡ false → P) → is_some (cond b (Some value) p) ≡ true → is_some (cond b (Some value) o) ≡ false → P
only_with true value o p h e f = absurd (false≢true (sym f))
only_with false value o p h e f = h e f

-- both make an output
more_with : (name : Hash256) (u v : Unspent) (k : OutPoint) (value : ℤ) → IsMore name u v → IsMore name (finite.insert u k value) (finite.insert v k value)
more_with name u v k value more = record {
  kept = λ q x e. get_insert v k value q ∙ kept_with (is_same q k) value (finite.get u q) (finite.get v q) (more.kept q) x (sym (get_insert u k value q) ∙ e);
  only = λ q e f. only_with (is_same q k) value (finite.get u q) (finite.get v q) (more.only q) (sym (ap is_some (get_insert v k value q)) ∙ e) (sym (ap is_some (get_insert u k value q)) ∙ f);
}

-- the second makes an output that the first doesn't have
more_first : (u : Unspent) (point : OutPoint) (value : ℤ) → finite.contains_key u point ≡ false → IsMore point.txid u (finite.insert u point value)
more_first u point value fresh = record {
  kept = λ q x e.
      elim (cases_Bool (is_same q point)) [
        | inl is ↦
            let here : finite.contains_key u point ≡ true = ap (λ (k : OutPoint). finite.contains_key u k) (sym (is_same-true q point is)) ∙ ap is_some e in
            absurd (false≢true (sym fresh ∙ here))
        | inr isnt ↦ get_insert u point value q ∙ rw isnt e
      ];
  only = λ q e f.
      elim (cases_Bool (is_same q point)) [
        | inl is ↦ ap (λ (k : OutPoint). k.txid) (is_same-true q point is)
        | inr isnt ↦
            let there : finite.get (finite.insert u point value) q ≡ finite.get u q = get_insert u point value q ∙ rw isnt refl in
            absurd (false≢true (sym f ∙ sym (ap is_some there) ∙ e))
      ];
}

-- ---- one transaction

inputs_over : (name : Hash256) (u v : Unspent) (inputs : List TxIn) (x : ℤ × Unspent) → IsMore name u v → spend_inputs u inputs ≡ Ok x
    → (w : Unspent) × (spend_inputs v inputs ≡ Ok (x.0, w)) × IsMore name x.1 w
unfolding spend_inputs
inputs_over name u v [] x more e =
    let same : (pos 0, u) ≡ x = ok_is (pos 0, u) x e in
    (v, ap (λ (y : ℤ × Unspent). Ok (y.0, v)) same, subst (λ (y : ℤ × Unspent). IsMore name y.1 v) same more)
inputs_over name u v (input ∷ inputs) x more e =
    let a = bind_ok (take_output u input.prev (finite.get u input.prev)) (λ first. spend_inputs first.1 inputs >>= λ others. Ok (first.0 +ℤ others.0, others.1)) x e in
    let b = bind_ok (spend_inputs a.0.1 inputs) (λ others. Ok (a.0.0 +ℤ others.0, others.1)) x a.2 in
    let t = taken u input.prev (finite.get u input.prev) a.0 a.1 in
    let same : (a.0.0 +ℤ b.0.0, b.0.1) ≡ x = ok_is (a.0.0 +ℤ b.0.0, b.0.1) x b.2 in
    let there : finite.get v input.prev ≡ Some a.0.0 = more.kept input.prev a.0.0 t.0 in
    let left = finite.remove v input.prev in
    let less : IsMore name a.0.1 left = subst (λ (m : Unspent). IsMore name m left) (sym t.1) (more_without name u v input.prev more) in
    let rest = inputs_over name a.0.1 left inputs b.0 less b.1 in
    let all : spend_inputs v (input ∷ inputs) ≡ Ok (a.0.0 +ℤ b.0.0, rest.0) = rw (there, rest.1) refl in
    (rest.0, subst (λ (y : ℤ × Unspent). spend_inputs v (input ∷ inputs) ≡ Ok (y.0, rest.0)) same all, subst (λ (y : ℤ × Unspent). IsMore name y.1 rest.0) same rest.2)

-- Over more it ends the same, or an output is made again by a transaction of the name.
abbrev EndsOver : Hash256 → Hash256 → Unspent → Result Unspent Fault → Type 0
EndsOver name txid w told = ((z : Unspent) × (told ≡ Ok z) × IsMore name w z) ⊎ ((told ≡ Err Remade) × (txid ≡ name))

outputs_over : (name txid : Hash256) (u v : Unspent) (place : ℕ) (outputs : List TxOut) (w : Unspent) → IsMore name u v → make_outputs u txid place outputs ≡ Ok w
    → EndsOver name txid w (make_outputs v txid place outputs)
unfolding make_outputs
outputs_over name txid u v place [] w more e = inl (v, refl, subst (λ (m : Unspent). IsMore name m v) (ok_is u w e) more)
outputs_over name txid u v place (output ∷ outputs) w more e =
    let point : OutPoint = record { txid = txid; index = place } in
    let t = test_ok (finite.contains_key u point) Remade (make_outputs (finite.insert u point output.value) txid (suc place) outputs) w e in
    let next = outputs_over name txid (finite.insert u point output.value) (finite.insert v point output.value) (suc place) outputs w (more_with name u v point output.value more) t.1 in
    elim (cases_Bool (finite.contains_key v point)) [
      | inl there ↦ inr (rw there refl, more.only point there t.0)
      | inr fresh ↦ rw fresh next
    ]

tx_over : (b : Bool) (name : Hash256) (u v w : Unspent) (tx : Tx) → is_coinbase tx.inputs ≡ b → IsMore name u v → spend_tx u tx ≡ Ok w → EndsOver name (txid_of tx) w (spend_tx v tx)
unfolding spend_tx
tx_over true name u v w tx is more e =
    let made : make_outputs u (txid_of tx) 0 tx.outputs ≡ Ok w = rw is at e in
    rw is (outputs_over name (txid_of tx) u v 0 tx.outputs w more made)
tx_over false name u v w tx is more e =
    let txid = txid_of tx in
    let spent : (spend_inputs u tx.inputs >>= λ s. cond (int_lt s.0 (value_sum tx.outputs)) (Err Overspent) (make_outputs s.1 txid 0 tx.outputs)) ≡ Ok w = rw is at e in
    let a = bind_ok (spend_inputs u tx.inputs) (λ s. cond (int_lt s.0 (value_sum tx.outputs)) (Err Overspent) (make_outputs s.1 txid 0 tx.outputs)) w spent in
    let t = test_ok (int_lt a.0.0 (value_sum tx.outputs)) Overspent (make_outputs a.0.1 txid 0 tx.outputs) w a.2 in
    let over = inputs_over name u v tx.inputs a.0 more a.1 in
    rw (is, over.1, t.0) (outputs_over name txid a.0.1 over.0 0 tx.outputs w over.2 t.1)

-- ---- transactions in turn

any_first : {X : Type 0} (P : X → Type 0) (x : X) (xs : List X) → P x → Any P (x ∷ xs)
any_first P x xs p = (0, x, omega arith, refl, p)

any_later : {X : Type 0} (P : X → Type 0) (x : X) (xs : List X) → Any P xs → Any P (x ∷ xs)
any_later P x xs (k, y, lt, at, p) = (suc k, y, omega arith, at, p)

-- one of two facts of an element, where the other holds of all
any_and : {X : Type 0} (P Q : X → Type 0) (xs : List X) → All P xs → Any Q xs → Any (λ x. P x × Q x) xs
any_and P Q xs all (k, y, lt, at, q) = (k, y, lt, at, (subst P at (all k y lt), q))

txs_over : (name : Hash256) (u v w : Unspent) (txs : List Tx) → IsMore name u v → spend u txs ≡ Ok w → IsOk (spend v txs) ⊎ ((spend v txs ≡ Err Remade) × Any (λ tx. txid_of tx ≡ name) txs)
unfolding spend
txs_over name u v w [] more e = inl refl
txs_over name u v w (tx ∷ txs) more e =
    let named = λ (t : Tx). txid_of t ≡ name in
    let a = bind_ok (spend_tx u tx) (λ next. spend next txs) w e in
    elim (tx_over (is_coinbase tx.inputs) name u v a.0 tx refl more a.1) [
      | inl made ↦
          let first : spend_tx v tx ≡ Ok made.0 = made.1 in
          elim (txs_over name a.0 made.0 w txs made.2 a.2) [
            | inl ok ↦ inl (rw first ok)
            | inr bad ↦ inr (rw first bad.0, any_later named tx txs bad.1)
          ]
      | inr bad ↦
          let first : spend_tx v tx ≡ Err Remade = bad.0 in
          inr (rw first refl, any_first named tx txs bad.1)
    ]

spends_first : (u next : Unspent) (tx : Tx) (txs : List Tx) → spend_tx u tx ≡ Ok next → spend u (tx ∷ txs) ≡ spend next txs
unfolding spend
spends_first u next tx txs e = rw e refl

-- what can be spent in turn can be spent up to any place
pub spends_front : (u w : Unspent) (txs others : List Tx) → spend u (txs ++ others) ≡ Ok w → (z : Unspent) × (spend u txs ≡ Ok z)
unfolding spend
spends_front u w [] others e = (u, refl)
spends_front u w (tx ∷ txs) others e =
    let a = bind_ok (spend_tx u tx) (λ next. spend next (txs ++ others)) w e in
    let rest = spends_front a.0 w txs others a.2 in
    (rest.0, spends_first u a.0 tx txs a.1 ∙ rest.1)

-- ---- behind a coinbase

coinbase_makes : (u : Unspent) (coinbase : Tx) (output : TxOut) → is_coinbase coinbase.inputs ≡ true → coinbase.outputs ≡ output ∷ []
    → spend_tx u coinbase ≡ cond (finite.contains_key u (first_output coinbase)) (Err Remade) (Ok (finite.insert u (first_output coinbase) output.value))
unfolding spend_tx make_outputs
coinbase_makes u coinbase output is one = rw (is, one) refl

-- A coinbase of one output, and then what can be spent without it: all can be spent, or an output is made again.
pub behind_coinbase : (u w : Unspent) (coinbase : Tx) (output : TxOut) (others : List Tx) → is_coinbase coinbase.inputs ≡ true → coinbase.outputs ≡ output ∷ [] → All (λ tx. ¬ IsCoinbase tx) others
    → spend u others ≡ Ok w → IsOk (spend u (coinbase ∷ others)) ⊎ ((spend u (coinbase ∷ others) ≡ Err Remade) × IsMadeAgain u (coinbase ∷ others))
unfolding spend
behind_coinbase u w coinbase output others is one ordinary e =
    let point = first_output coinbase in
    let next = finite.insert u point output.value in
    let makes = coinbase_makes u coinbase output is one in
    elim (cases_Bool (finite.contains_key u point)) [
      | inl there ↦
          let first : spend_tx u coinbase ≡ Err Remade = makes ∙ rw there refl in
          inr (rw first refl, inl there)
      | inr fresh ↦
          let first : spend_tx u coinbase ≡ Ok next = makes ∙ rw fresh refl in
          elim (txs_over (txid_of coinbase) u next w others (more_first u point output.value fresh) e) [
            | inl ok ↦ inl (rw first ok)
            | inr bad ↦ inr (rw first bad.0, inr (any_and (λ (tx : Tx). ¬ IsCoinbase tx) (λ (tx : Tx). txid_of tx ≡ txid_of coinbase) others ordinary bad.1))
          ]
    ]
