-- Spending inputs and making outputs one after the other, as loops do.
use Rattle.std.proofs.lemmas.Bool.{false≢true}
use Rattle.std.proofs.Common.{is_some, ◌≡◌, ℕ, suc, ◌+◌, ◌<◌, ◌≤◌, ℤ, ◌+ℤ◌, true, false, List, ◌∷◌, length, get_or, drop, Some, None, Option, Result, Ok, Err, refl, sym, ap, ◌∙◌, arith, drop-cons}
use Rattle.std.specs.FinMap as map
use Rattle.std.proofs.Math.IntN.{+ℤ_assoc, +ℤ_idr}
use Rattle.std.proofs.lemmas.List.{drop_all}
use Rattle.cb_base.specs.declared.fault.Fault.{Fault}
use Rattle.cb_base.specs.declared.fault.Fault.TheVariants.{NoInput, Remade}
use Rattle.cb_base.specs.declared.hash.Hash256.{Hash256}
use Rattle.cb_base.specs.Reading.{◌>>=◌}
use Rattle.cb_block.specs.declared.tx.TxIn.{TxIn}
use Rattle.cb_block.specs.declared.tx.TxOut.{TxOut}
use Rattle.cb_ledger.specs.Unspent.{Unspent}
use Rattle.cb_ledger.specs.Spend.{spend_inputs, make_outputs}

-- what is spent already, and what is still spent
abbrev pub with_sum : ℤ → Result (ℤ × Unspent) Fault → Result (ℤ × Unspent) Fault
with_sum sum spent = spent >>= λ x. Ok (sum +ℤ x.0, x.1)

regroup : (sum value : ℤ) (spent : Result (ℤ × Unspent) Fault) → with_sum sum (spent >>= λ x. Ok (value +ℤ x.0, x.1)) ≡ with_sum (sum +ℤ value) spent
regroup sum value (Ok x) = ap (λ (s : ℤ). Ok (s, x.1)) (sym (+ℤ_assoc sum value x.0))
regroup sum value (Err fault) = refl

-- one input more
pub inputs_more : (u next : Unspent) (inputs : List TxIn) (i : ℕ) (input : TxIn) (sum value : ℤ) (all : Result (ℤ × Unspent) Fault) → i < length inputs → input ≡ get_or inputs i input
    → map.get u input.prev ≡ Some value → next ≡ map.remove u input.prev → with_sum sum (spend_inputs u (drop i inputs)) ≡ all
    → with_sum (sum +ℤ value) (spend_inputs next (drop (i + 1) inputs)) ≡ all
unfolding spend_inputs
inputs_more u next inputs i input sum value all lt is has next_is so_far =
    let place : suc i ≡ i + 1 = omega arith in
    let left : drop i inputs ≡ input ∷ drop (i + 1) inputs = drop-cons inputs i input lt ∙ ap (λ (x : TxIn). x ∷ drop (suc i) inputs) (sym is) ∙ ap (λ (n : ℕ). input ∷ drop n inputs) place in
    let one : spend_inputs u (input ∷ drop (i + 1) inputs) ≡ (spend_inputs next (drop (i + 1) inputs) >>= λ x. Ok (value +ℤ x.0, x.1)) = rw (has, next_is) refl in
    sym (ap (λ (l : List TxIn). with_sum sum (spend_inputs u l)) left ∙ ap (with_sum sum) one ∙ regroup sum value (spend_inputs next (drop (i + 1) inputs))) ∙ so_far

-- an input whose output isn't unspent
pub inputs_refused : (u : Unspent) (inputs : List TxIn) (i : ℕ) (input : TxIn) (sum : ℤ) (all : Result (ℤ × Unspent) Fault) → i < length inputs → input ≡ get_or inputs i input
    → map.get u input.prev ≡ None → with_sum sum (spend_inputs u (drop i inputs)) ≡ all → all ≡ Err NoInput
unfolding spend_inputs
inputs_refused u inputs i input sum all lt is has so_far =
    let left : drop i inputs ≡ input ∷ drop (suc i) inputs = drop-cons inputs i input lt ∙ ap (λ (x : TxIn). x ∷ drop (suc i) inputs) (sym is) in
    let one : spend_inputs u (input ∷ drop (suc i) inputs) ≡ Err NoInput = rw has refl in
    sym so_far ∙ ap (λ (l : List TxIn). with_sum sum (spend_inputs u l)) left ∙ ap (with_sum sum) one

-- all of them
pub inputs_end : (u : Unspent) (inputs : List TxIn) (i : ℕ) (sum : ℤ) (all : Result (ℤ × Unspent) Fault) → length inputs ≤ i → with_sum sum (spend_inputs u (drop i inputs)) ≡ all → all ≡ Ok (sum, u)
unfolding spend_inputs
inputs_end u inputs i sum all le so_far =
    sym so_far ∙ ap (λ (l : List TxIn). with_sum sum (spend_inputs u l)) (drop_all i inputs le) ∙ ap (λ (s : ℤ). Ok (s, u)) (+ℤ_idr sum)

-- one output more
pub outputs_more : (u next : Unspent) (txid : Hash256) (outputs : List TxOut) (i : ℕ) (output : TxOut) (all : Result Unspent Fault) → i < length outputs → output ≡ get_or outputs i output
    → map.get u (record { txid = txid; index = i }) ≡ None → next ≡ map.insert u (record { txid = txid; index = i }) output.value → make_outputs u txid i (drop i outputs) ≡ all
    → make_outputs next txid (i + 1) (drop (i + 1) outputs) ≡ all
unfolding make_outputs
outputs_more u next txid outputs i output all lt is has next_is so_far =
    let place : suc i ≡ i + 1 = omega arith in
    let left : drop i outputs ≡ output ∷ drop (suc i) outputs = drop-cons outputs i output lt ∙ ap (λ (x : TxOut). x ∷ drop (suc i) outputs) (sym is) in
    let one : make_outputs u txid i (output ∷ drop (suc i) outputs) ≡ make_outputs next txid (suc i) (drop (suc i) outputs) = rw (has, next_is) refl in
    ap (λ (n : ℕ). make_outputs next txid n (drop n outputs)) (sym place) ∙ sym one ∙ ap (make_outputs u txid i) (sym left) ∙ so_far

-- an output that is unspent already
pub outputs_refused : (u : Unspent) (txid : Hash256) (outputs : List TxOut) (i : ℕ) (output : TxOut) (all : Result Unspent Fault) → i < length outputs → output ≡ get_or outputs i output
    → map.contains_key u (record { txid = txid; index = i }) ≡ true → make_outputs u txid i (drop i outputs) ≡ all → all ≡ Err Remade
unfolding make_outputs
outputs_refused u txid outputs i output all lt is has so_far =
    let left : drop i outputs ≡ output ∷ drop (suc i) outputs = drop-cons outputs i output lt ∙ ap (λ (x : TxOut). x ∷ drop (suc i) outputs) (sym is) in
    let one : make_outputs u txid i (output ∷ drop (suc i) outputs) ≡ Err Remade = rw has refl in
    sym so_far ∙ ap (make_outputs u txid i) left ∙ one

-- all of them
pub outputs_end : (u : Unspent) (txid : Hash256) (outputs : List TxOut) (i : ℕ) (all : Result Unspent Fault) → length outputs ≤ i → make_outputs u txid i (drop i outputs) ≡ all → all ≡ Ok u
unfolding make_outputs
outputs_end u txid outputs i all le so_far = sym so_far ∙ ap (make_outputs u txid i) (drop_all i outputs le)

pub is_none : (o : Option ℤ) → is_some o ≡ false → o ≡ None
is_none None e = refl
is_none (Some x) e = absurd (false≢true (sym e))
