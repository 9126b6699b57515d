-- Which outpoint transactions touch first: no memory is wanted before that.
use Rattle.std.proofs.Common.{◌≡◌, ℕ, suc, ◌+◌, ◌<◌, ◌⊎◌, ℤ, pos, ◌+ℤ◌, ◌≤ℤ◌, true, false, List, [], ◌∷◌, length, get_or, drop, Some, None, Option, Ok, Err, is_some, refl, sym, ap, subst, ◌∙◌, arith, inl, inr, drop-cons}
use Rattle.std.specs.FinMap as map
use Rattle.cb_base.specs.declared.fault.Fault.TheVariants.{NoInput}
use Rattle.cb_base.specs.declared.hash.Hash256.{Hash256}
use Rattle.cb_base.specs.DoubleHash.{double_hash}
use Rattle.cb_base.specs.Reading.{◌>>=◌}
use Rattle.cb_base.proofs.Fields.{ok_is}
use Rattle.cb_block.specs.declared.tx.OutPoint.{OutPoint}
use Rattle.cb_block.specs.declared.tx.TxIn.{TxIn}
use Rattle.cb_block.specs.declared.tx.TxOut.{TxOut}
use Rattle.cb_block.specs.declared.tx.Tx.{Tx}
use Rattle.cb_block.specs.TxRules.{value_sum}
use Rattle.cb_block.specs.TxText.{tx_text}
use Rattle.cb_ledger.specs.declared.undo.CoinChange.{CoinChange}
use Rattle.cb_ledger.specs.Spend.{is_coinbase, spend_inputs, spend_tx, take_output}
use Rattle.cb_ledger.specs.Touched.{MakesFirst, SpendsFirst, Touches, TouchesOne}
use Rattle.cb_ledger.specs.Touched.TouchesOne.{makes, mints, spends}
use Rattle.cb_ledger.specs.Undo.{changed, changes_of}
use Rattle.cb_ledger.specs.Unspent.{Unspent}

-- ---- inputs and outputs

pub input_first : (u : Unspent) (inputs : List TxIn) (i : ℕ) (input : TxIn) (value : ℤ) → i ≡ 0 → i < length inputs → input ≡ get_or inputs i input → map.get u input.prev ≡ Some value → SpendsFirst u inputs
input_first u [] i input value at lt is has = absurd (omega arith)
input_first u (first ∷ inputs) i input value at lt is has =
    let one : input ≡ first = subst (λ (n : ℕ). input ≡ get_or (first ∷ inputs) n input) at is in
    subst (λ (x : TxIn). is_some (map.get u x.prev) ≡ true) one (ap is_some has)

pub output_first : (u : Unspent) (txid : Hash256) (outputs : List TxOut) (i : ℕ) → i ≡ 0 → i < length outputs → map.get u (record { txid = txid; index = i }) ≡ None → MakesFirst u txid outputs
output_first u txid [] i at lt free = absurd (omega arith)
output_first u txid (output ∷ outputs) i at lt free =
    subst (λ (n : ℕ). is_some (map.get u (record { txid = txid; index = n })) ≡ false) at (ap is_some free)

-- in a loop: either the first was touched before, or this is the first
pub input_touched : (u : Unspent) (old draft : List CoinChange) (inputs : List TxIn) (i : ℕ) (input : TxIn) (value : ℤ) → SpendsFirst (changed u old) inputs ⊎ ((draft ≡ old) × (i ≡ 0)) → i < length inputs
    → input ≡ get_or inputs i input → map.get (changed u draft) input.prev ≡ Some value → SpendsFirst (changed u old) inputs
input_touched u old draft inputs i input value (inl touched) lt is has = touched
input_touched u old draft inputs i input value (inr first) lt is has =
    input_first (changed u old) inputs i input value first.1 lt is (subst (λ (d : List CoinChange). map.get (changed u d) input.prev ≡ Some value) first.0 has)

pub output_touched : (u : Unspent) (old draft : List CoinChange) (txid : Hash256) (outputs : List TxOut) (i : ℕ) → MakesFirst (changed u old) txid outputs ⊎ ((draft ≡ old) × (i ≡ 0)) → i < length outputs
    → map.get (changed u draft) (record { txid = txid; index = i }) ≡ None → MakesFirst (changed u old) txid outputs
output_touched u old draft txid outputs i (inl touched) lt free = touched
output_touched u old draft txid outputs i (inr first) lt free =
    output_first (changed u old) txid outputs i first.1 lt (subst (λ (d : List CoinChange). map.get (changed u d) (record { txid = txid; index = i }) ≡ None) first.0 free)

-- ---- one transaction

reached : (u : Unspent) (input : TxIn) (inputs : List TxIn) (r : ℤ × Unspent) → spend_inputs u (input ∷ inputs) ≡ Ok r → SpendsFirst u (input ∷ inputs)
unfolding spend_inputs
reached u input inputs r e = of (map.get u input.prev) e where
  of : (o : Option ℤ) → (take_output u input.prev o >>= λ first. spend_inputs first.1 inputs >>= λ others. Ok (first.0 +ℤ others.0, others.1)) ≡ Ok r → is_some o ≡ true
  of None e = let z : Err NoInput ≡ Ok r = e in cc
  of (Some value) e = refl

pub touches_spent : (u : Unspent) (tx : Tx) (inputs : List TxIn) → is_coinbase tx.inputs ≡ false → inputs ≡ tx.inputs → SpendsFirst u inputs → TouchesOne u tx
touches_spent u tx inputs other are h = spends other (subst (SpendsFirst u) are h)

made_first : (u : Unspent) (tx : Tx) (txid : Hash256) (outputs : List TxOut) → txid ≡ double_hash (tx_text tx) → outputs ≡ tx.outputs → MakesFirst u txid outputs → MakesFirst u (double_hash (tx_text tx)) tx.outputs
made_first u tx txid outputs name are h = subst (λ (t : Hash256). MakesFirst u t tx.outputs) name (subst (MakesFirst u txid) are h)

pub touches_minted : (u : Unspent) (tx : Tx) (txid : Hash256) (outputs : List TxOut) → is_coinbase tx.inputs ≡ true → txid ≡ double_hash (tx_text tx) → outputs ≡ tx.outputs → MakesFirst u txid outputs
    → TouchesOne u tx
touches_minted u tx txid outputs coinbase name are h = mints coinbase (made_first u tx txid outputs name are h)

-- outputs are reached behind inputs, the first of which was touched, or with none
pub touches_made : (u : Unspent) (tx : Tx) (txid : Hash256) (inputs : List TxIn) (outputs : List TxOut) (sum made : ℤ) (next : Unspent) → is_coinbase tx.inputs ≡ false → txid ≡ double_hash (tx_text tx)
    → inputs ≡ tx.inputs → outputs ≡ tx.outputs → spend_inputs u inputs ≡ Ok (sum, next) → made ≡ value_sum tx.outputs → made ≤ℤ sum → MakesFirst next txid outputs → TouchesOne u tx
unfolding spend_inputs
touches_made u tx txid [] outputs sum made next other name are outs h made_is le first =
    let same : (pos 0, u) ≡ (sum, next) = ok_is (pos 0, u) (sum, next) h in
    let nothing : value_sum tx.outputs ≤ℤ pos 0 = subst (λ (n : ℤ). n ≤ℤ pos 0) made_is (subst (λ (n : ℤ). made ≤ℤ n) (sym (ap (λ (p : ℤ × Unspent). p.0) same)) le) in
    makes (sym are) nothing (made_first u tx txid outputs name outs (subst (λ (m : Unspent). MakesFirst m txid outputs) (sym (ap (λ (p : ℤ × Unspent). p.1) same)) first))
touches_made u tx txid (input ∷ inputs) outputs sum made next other name are outs h made_is le first =
    touches_spent u tx (input ∷ inputs) other are (reached u input inputs (sum, next) h)

-- ---- transactions one after the other

at_place : (txs : List Tx) (i : ℕ) (tx : Tx) → i < length txs → tx ≡ get_or txs i tx → drop i txs ≡ tx ∷ drop (i + 1) txs
at_place txs i tx lt is =
    let place : suc i ≡ i + 1 = omega arith in
    drop-cons txs i tx lt ∙ ap (λ (x : Tx). x ∷ drop (suc i) txs) (sym is) ∙ ap (λ (n : ℕ). tx ∷ drop n txs) place

pub touches_here : (u : Unspent) (txs : List Tx) (i : ℕ) (tx : Tx) → i < length txs → tx ≡ get_or txs i tx → TouchesOne u tx → Touches u (drop i txs)
touches_here u txs i tx lt is one = subst (Touches u) (sym (at_place txs i tx lt is)) (inl one)

pub touches_later : (u next : Unspent) (txs : List Tx) (i : ℕ) (tx : Tx) → i < length txs → tx ≡ get_or txs i tx → spend_tx u tx ≡ Ok next → Touches next (drop (i + 1) txs) → Touches u (drop i txs)
touches_later u next txs i tx lt is h later = subst (Touches u) (sym (at_place txs i tx lt is)) (inr (next, h, later))

-- ---- with no changes yet

pub touches_from : (u : Unspent) (none : List CoinChange) (txs all : List Tx) → none ≡ [] → txs ≡ all → Touches (changed u none) txs → Touches u all
unfolding changed
touches_from u none txs all e are touched = subst (Touches u) are (subst (λ (d : List CoinChange). Touches (changed u d) txs) e touched)

pub no_entries : (entries : List (OutPoint × Option ℤ)) → changes_of entries ≡ [] → length entries ≡ 0
no_entries [] e = refl
no_entries (entry ∷ entries) e = cc
