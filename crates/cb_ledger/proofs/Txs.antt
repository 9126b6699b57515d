-- Spending one transaction, and transactions one after the other.
use Rattle.std.proofs.Common.{◌≡◌, ℕ, zero, suc, ◌+◌, ◌<◌, ◌≤◌, ◌⊎◌, ℤ, Bool, true, false, List, [], ◌∷◌, ◌++◌, length, get_or, drop, replicate, Result, Ok, Err, refl, sym, ap, subst, ◌∙◌, arith, inl, inr, drop-cons}
use Rattle.std.specs.Prelude.{◌≢◌, IfOk, IsOk, IsOkUnless, ◌↔◌, ◌&&◌, ◌==◌, ◌<ℤ◌, ◌≤ℤ◌, int_lt, IsTrue, nat_eq}
use Rattle.std.proofs.lemmas.Bool.{false≢true, eqb-true, eq-eqb}
use Rattle.std.proofs.lemmas.Int.{ints}
use Rattle.std.proofs.lemmas.List.{drop_all}
use lib.Pointwise.{pointwise, bytes_decides}
use Rattle.cb_base.specs.declared.fault.Fault.{Fault}
use Rattle.cb_base.specs.declared.fault.Fault.TheVariants.{Memory, Overspent}
use Rattle.cb_base.specs.declared.hash.Hash256.{Hash256}
use Rattle.cb_base.specs.DoubleHash.{double_hash}
use Rattle.cb_base.proofs.Fields.{bind_ok, ok_is}
use Rattle.cb_block.specs.declared.tx.OutPoint.{OutPoint}
use Rattle.cb_block.specs.declared.tx.TxIn.{TxIn}
use Rattle.cb_block.specs.declared.tx.TxOut.{TxOut}
use Rattle.cb_block.specs.declared.tx.Tx.{Tx}
use Rattle.cb_block.specs.TxRules.{IsNull, IsCoinbaseInputs, value_sum}
use Rattle.cb_block.specs.TxText.{tx_text}
use Rattle.cb_block.specs.Blocks.{texts}
use Rattle.cb_block.specs.Soundness.{names}
use Rattle.cb_ledger.specs.Unspent.{Unspent}
use Rattle.cb_ledger.specs.declared.undo.CoinChange.{CoinChange}
use Rattle.cb_ledger.specs.Undo.{changed}
use Rattle.cb_ledger.specs.Spend.{is_null, is_coinbase, spend_inputs, make_outputs, spend_tx, spend, Tells}

-- ---- which transactions are coinbases

and_parts : (a b : Bool) → (a && b) ≡ true → (a ≡ true) × (b ≡ true)
and_parts true b e = (refl, e)
and_parts false b e = absurd (false≢true e)

null_from : (p : OutPoint) → is_null p ≡ true → IsNull p
null_from p e =
    let parts = and_parts (pointwise nat_eq p.txid.0 (replicate 32 0)) (p.index == 4294967295) e in
    ((bytes_decides p.txid.0 (replicate 32 0)).0 parts.0, eqb-true _ _ parts.1)

null_to : (p : OutPoint) → IsNull p → is_null p ≡ true
null_to p h =
    let bytes : pointwise nat_eq p.txid.0 (replicate 32 0) ≡ true = (bytes_decides p.txid.0 (replicate 32 0)).1 h.0 in
    let place : (p.index == 4294967295) ≡ true = eq-eqb _ _ h.1 in
    rw (bytes, place) refl

same_bool : (a b : Bool) → (a ≡ true → b ≡ true) → (b ≡ true → a ≡ true) → a ≡ b
same_bool true b f g = sym (f refl)
same_bool false true f g = g refl
same_bool false false f g = refl

pub is_coinbase-true : (inputs : List TxIn) → is_coinbase inputs ≡ true → IsCoinbaseInputs inputs
is_coinbase-true [] e = absurd (false≢true e)
is_coinbase-true (only ∷ []) e = null_from only.prev e
is_coinbase-true (first ∷ second ∷ others) e = absurd (false≢true e)

pub true-is_coinbase : (inputs : List TxIn) → IsCoinbaseInputs inputs → is_coinbase inputs ≡ true
true-is_coinbase [] h = absurd h
true-is_coinbase (only ∷ []) h = null_to only.prev h
true-is_coinbase (first ∷ second ∷ others) h = absurd h

pub is_coinbase_is : (inputs : List TxIn) (r : Bool) → (IsTrue r ↔ IsCoinbaseInputs inputs) → is_coinbase inputs ≡ r
is_coinbase_is inputs r tells = same_bool (is_coinbase inputs) r (λ e. tells.1 (is_coinbase-true inputs e)) (λ e. true-is_coinbase inputs (tells.0 e))

-- ---- one transaction

pub Tells-same : {A B : Type 0} (expected other : Result A Fault) (shows : B → A) (r : Result B Fault) → other ≡ expected → Tells expected shows r → Tells other shows r
Tells-same {A} {B} expected other shows r e h = subst (λ (x : Result A Fault). Tells x shows r) (sym e) h

lt_true : (a b : ℤ) → a <ℤ b → int_lt a b ≡ true
lt_true a b h = grind (arith, ints)

lt_false : (a b : ℤ) → b ≤ℤ a → int_lt a b ≡ false
lt_false a b h = grind (arith, ints)

pub tx_coinbase : (u : Unspent) (tx : Tx) (txid : Hash256) (outputs : List TxOut) → is_coinbase tx.inputs ≡ true → txid ≡ double_hash (tx_text tx) → outputs ≡ tx.outputs
    → spend_tx u tx ≡ make_outputs u txid 0 outputs
unfolding spend_tx
tx_coinbase u tx txid outputs e name are = rw (name, are, e) refl

pub tx_unspent : (u : Unspent) (tx : Tx) (inputs : List TxIn) (fault : Fault) → is_coinbase tx.inputs ≡ false → inputs ≡ tx.inputs → (fault ≡ Memory) ⊎ (spend_inputs u inputs ≡ Err fault)
    → (fault ≡ Memory) ⊎ (spend_tx u tx ≡ Err fault)
unfolding spend_tx
tx_unspent u tx inputs fault e are (inl memory) = inl memory
tx_unspent u tx inputs fault e are (inr h) =
    let one : spend_inputs u tx.inputs ≡ Err fault = ap (spend_inputs u) (sym are) ∙ h in
    inr (rw (e, one) refl)

pub tx_overspent : (u : Unspent) (tx : Tx) (inputs : List TxIn) (sum made : ℤ) (next : Unspent) → is_coinbase tx.inputs ≡ false → inputs ≡ tx.inputs → spend_inputs u inputs ≡ Ok (sum, next)
    → made ≡ value_sum tx.outputs → sum <ℤ made → spend_tx u tx ≡ Err Overspent
unfolding spend_tx
tx_overspent u tx inputs sum made next e are h made_is lt =
    let one : spend_inputs u tx.inputs ≡ Ok (sum, next) = ap (spend_inputs u) (sym are) ∙ h in
    let less : int_lt sum (value_sum tx.outputs) ≡ true = ap (int_lt sum) (sym made_is) ∙ lt_true sum made lt in
    rw (e, one, less) refl

pub tx_other : (u : Unspent) (tx : Tx) (txid : Hash256) (inputs : List TxIn) (outputs : List TxOut) (sum made : ℤ) (next : Unspent) → is_coinbase tx.inputs ≡ false → txid ≡ double_hash (tx_text tx)
    → inputs ≡ tx.inputs → outputs ≡ tx.outputs → spend_inputs u inputs ≡ Ok (sum, next) → made ≡ value_sum tx.outputs → made ≤ℤ sum → spend_tx u tx ≡ make_outputs next txid 0 outputs
unfolding spend_tx
tx_other u tx txid inputs outputs sum made next e name are outs h made_is le =
    let one : spend_inputs u tx.inputs ≡ Ok (sum, next) = ap (spend_inputs u) (sym are) ∙ h in
    let enough : int_lt sum (value_sum tx.outputs) ≡ false = ap (int_lt sum) (sym made_is) ∙ lt_false sum made le in
    rw (name, outs, e, one, enough) refl

-- ---- transactions one after the other

-- one transaction more
pub txs_more : (u next : Unspent) (txs : List Tx) (i : ℕ) (tx : Tx) (all : Result Unspent Fault) → i < length txs → tx ≡ get_or txs i tx → spend_tx u tx ≡ Ok next → spend u (drop i txs) ≡ all
    → spend next (drop (i + 1) txs) ≡ all
unfolding spend
txs_more u next txs i tx all lt is h so_far =
    let place : suc i ≡ i + 1 = omega arith in
    let left : drop i txs ≡ tx ∷ drop (i + 1) txs = drop-cons txs i tx lt ∙ ap (λ (x : Tx). x ∷ drop (suc i) txs) (sym is) ∙ ap (λ (n : ℕ). tx ∷ drop n txs) place in
    let one : spend u (tx ∷ drop (i + 1) txs) ≡ spend next (drop (i + 1) txs) = rw h refl in
    sym one ∙ ap (spend u) (sym left) ∙ so_far

-- one that is refused
pub txs_refused : (u : Unspent) (txs : List Tx) (i : ℕ) (tx : Tx) (fault : Fault) (all : Result Unspent Fault) → i < length txs → tx ≡ get_or txs i tx → (fault ≡ Memory) ⊎ (spend_tx u tx ≡ Err fault) → spend u (drop i txs) ≡ all
    → (fault ≡ Memory) ⊎ (all ≡ Err fault)
unfolding spend
txs_refused u txs i tx fault all lt is (inl memory) so_far = inl memory
txs_refused u txs i tx fault all lt is (inr h) so_far =
    let left : drop i txs ≡ tx ∷ drop (suc i) txs = drop-cons txs i tx lt ∙ ap (λ (x : Tx). x ∷ drop (suc i) txs) (sym is) in
    let one : spend u (tx ∷ drop (suc i) txs) ≡ Err fault = rw h refl in
    inr (sym so_far ∙ ap (spend u) left ∙ one)

-- all of them
pub txs_end : (u : Unspent) (txs : List Tx) (i : ℕ) (all : Result Unspent Fault) → length txs ≤ i → spend u (drop i txs) ≡ all → all ≡ Ok u
unfolding spend
txs_end u txs i all le so_far = sym so_far ∙ ap (spend u) (drop_all i txs le)

-- the name at a place is that of the transaction there
pub name_at : (txs : List Tx) (txids : List Hash256) (i : ℕ) (tx : Tx) (d : Hash256) → txids ≡ names (texts txs) → i < length txs → tx ≡ get_or txs i tx → get_or txids i d ≡ double_hash (tx_text tx)
name_at txs txids i tx d named lt is = ap (λ l. get_or l i d) named ∙ at txs i lt ∙ ap (λ t. double_hash (tx_text t)) (sym is) where
  at : (ts : List Tx) (k : ℕ) → k < length ts → get_or (names (texts ts)) k d ≡ double_hash (tx_text (get_or ts k tx))
  at [] k h = absurd (omega arith)
  at (t ∷ ts) zero h = refl
  at (t ∷ ts) (suc k) h = at ts k (omega arith)

-- ---- with no changes yet

pub spend_from : (u : Unspent) (none : List CoinChange) (txs all : List Tx) → none ≡ [] → txs ≡ all → spend u all ≡ spend (changed u none) txs
unfolding changed
spend_from u none txs all e are = rw (e, are) refl

pub fault_from : (u : Unspent) (none : List CoinChange) (txs all : List Tx) (fault : Fault) → none ≡ [] → txs ≡ all → (fault ≡ Memory) ⊎ (spend (changed u none) txs ≡ Err fault) → (fault ≡ Memory) ⊎ (spend u all ≡ Err fault)
fault_from u none txs all fault e are (inl memory) = inl memory
fault_from u none txs all fault e are (inr h) = inr (spend_from u none txs all e are ∙ h)

-- changes that are written out, unless memory runs out
pub told_out : (u : Unspent) (draft : List CoinChange) (expected : Result Unspent Fault) (r : Result (List CoinChange) Fault) → expected ≡ Ok (changed u draft) → IfOk r (λ changes. changes ≡ draft) → IsOkUnless r Memory
    → Tells expected (λ changes. changed u changes) r
told_out u draft expected (Ok changes) told same memory = told ∙ ap (λ cs. Ok (changed u cs)) (sym same)
told_out u draft expected (Err fault) told same memory = inl memory

-- none are written out without memory
pub none_out : (draft : List CoinChange) (r : Result (List CoinChange) Fault) → draft ≡ [] → IfOk r (λ changes. changes ≡ draft) → (draft ≡ [] → IsOk r) → IfOk r (λ changes. changes ≡ []) × (r ≢ Err Memory)
none_out draft (Ok changes) e same none = (same ∙ e, λ clash. absurd cc)
none_out draft (Err fault) e same none = absurd (false≢true (none e))

-- transactions behind others
pub spend-append : (u w : Unspent) (txs others : List Tx) → spend u txs ≡ Ok w → spend u (txs ++ others) ≡ spend w others
unfolding spend
spend-append u w [] others e = let same : u ≡ w = ok_is u w e in rw same refl
spend-append u w (tx ∷ txs) others e =
    let a = bind_ok (spend_tx u tx) (λ next. spend next txs) w e in
    let one : spend_tx u tx ≡ Ok a.0 = a.1 in
    rw one (spend-append a.0 w txs others a.2)
