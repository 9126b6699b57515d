-- Inputs taken out one after the other, and outputs put in.
use Rattle.std.proofs.Common.{◌≡◌, ℕ, zero, suc, ◌+◌, ◌<◌, ◌≤◌, ℤ, pos, ◌+ℤ◌, true, List, [], ◌∷◌, length, get_or, take, drop, Some, None, Ok, Err, Result, is_some, refl, sym, ap, subst, ◌∙◌, arith, inl, inr}
use Rattle.std.specs.Prelude.{◌≢◌, Any, slice_get}
use Rattle.std.specs.FinMap as finite
use Rattle.std.proofs.Math.IntN.{+ℤ_idl}
use Rattle.std.proofs.lemmas.Bool.{cases_Bool}
use Rattle.std.proofs.lemmas.List.{length-take, take_all}
use Rattle.cb_base.specs.declared.hash.Hash256.{Hash256}
use Rattle.cb_block.specs.declared.tx.OutPoint.{OutPoint}
use Rattle.cb_block.specs.declared.tx.TxIn.{TxIn}
use Rattle.cb_block.specs.declared.tx.TxOut.{TxOut}
use Rattle.cb_block.specs.TxRules.{SpendsTwice}
use Rattle.cb_block.proofs.Repeats.{prevs}
use Rattle.cb_ledger.specs.Touched.{IsNamed}
use Rattle.cb_ledger.specs.Unspent.{Unspent}
use Rattle.cb_ledger.proofs.Outpoints.{is_same, is_same-true, is_same-refl, get_insert, get_remove}
use Rattle.cb_base.specs.declared.fault.Fault.{Fault}
use Rattle.cb_base.specs.declared.fault.Fault.TheVariants.{NoInput, Remade}
use Rattle.cb_ledger.specs.Spend.{make_outputs, spend_inputs}
use Rattle.cb_ledger.proofs.Spending.{inputs_end, inputs_more, inputs_refused, outputs_end, outputs_more, outputs_refused, with_sum}
use Rattle.cb_pool.specs.Leaving.{with_outputs, without_inputs}

-- ---- one map entry

pub remove_other : (q : OutPoint) (u : Unspent) (k : OutPoint) → k ≢ q → finite.get (finite.remove u k) q ≡ finite.get u q
remove_other q u k differs =
    elim (cases_Bool (is_same q k)) [
      | inl is ↦ absurd (differs (sym (is_same-true q k is)))
      | inr isnt ↦ get_remove u k q ∙ rw isnt refl
    ]

pub remove_none : (q : OutPoint) (u : Unspent) (k : OutPoint) → finite.get u q ≡ None → finite.get (finite.remove u k) q ≡ None
remove_none q u k none =
    elim (cases_Bool (is_same q k)) [
      | inl is ↦ get_remove u k q ∙ rw is refl
      | inr isnt ↦ get_remove u k q ∙ rw isnt none
    ]

pub remove_here : (q : OutPoint) (u : Unspent) → finite.get (finite.remove u q) q ≡ None
remove_here q u = get_remove u q q ∙ rw (is_same-refl q) refl

pub insert_other : (q : OutPoint) (u : Unspent) (k : OutPoint) (v : ℤ) → k ≢ q → finite.get (finite.insert u k v) q ≡ finite.get u q
insert_other q u k v differs =
    elim (cases_Bool (is_same q k)) [
      | inl is ↦ absurd (differs (sym (is_same-true q k is)))
      | inr isnt ↦ get_insert u k v q ∙ rw isnt refl
    ]

-- ---- inputs

pub without_none : (q : OutPoint) (u : Unspent) (inputs : List TxIn) → finite.get u q ≡ None → finite.get (without_inputs u inputs) q ≡ None
unfolding without_inputs
without_none q u [] none = none
without_none q u (input ∷ inputs) none = without_none q (finite.remove u input.prev) inputs (remove_none q u input.prev none)

pub without_named : (q : OutPoint) (u : Unspent) (inputs : List TxIn) → IsNamed inputs q → finite.get (without_inputs u inputs) q ≡ None
unfolding without_inputs
without_named q u [] named = absurd named
without_named q u (input ∷ inputs) (inl here) =
    without_none q (finite.remove u input.prev) inputs (subst (λ (k : OutPoint). finite.get (finite.remove u k) q ≡ None) (sym here) (remove_here q u))
without_named q u (input ∷ inputs) (inr later) = without_named q (finite.remove u input.prev) inputs later

pub without_other : (q : OutPoint) (u : Unspent) (inputs : List TxIn) → ¬ IsNamed inputs q → finite.get (without_inputs u inputs) q ≡ finite.get u q
unfolding without_inputs
without_other q u [] other = refl
without_other q u (input ∷ inputs) other =
    without_other q (finite.remove u input.prev) inputs (λ named. other (inr named)) ∙ remove_other q u input.prev (λ p. other (inl p))

-- one input more
without_next : (u : Unspent) (inputs : List TxIn) (i : ℕ) (input : TxIn) → i < length inputs → input ≡ get_or inputs i input
    → without_inputs u (take (suc i) inputs) ≡ finite.remove (without_inputs u (take i inputs)) input.prev
unfolding without_inputs
without_next u [] i input lt is = absurd (omega arith)
without_next u (first ∷ inputs) zero input lt is = ap (λ (x : TxIn). finite.remove u x.prev) (sym is)
without_next u (first ∷ inputs) (suc i) input lt is = without_next (finite.remove u first.prev) inputs i input (omega arith) is

pub without_more : (u : Unspent) (inputs : List TxIn) (i : ℕ) (input : TxIn) → i < length inputs → input ≡ get_or inputs i input
    → without_inputs u (take (i + 1) inputs) ≡ finite.remove (without_inputs u (take i inputs)) input.prev
without_more u inputs i input lt is =
    let next : i + 1 ≡ suc i = omega arith in
    ap (λ (n : ℕ). without_inputs u (take n inputs)) next ∙ without_next u inputs i input lt is

pub without_all : (u : Unspent) (inputs : List TxIn) (i : ℕ) → length inputs ≤ i → without_inputs u (take i inputs) ≡ without_inputs u inputs
without_all u inputs i le = ap (without_inputs u) (take_all i inputs le)

-- ---- inputs that name different outputs

at_place : (inputs : List TxIn) (i : ℕ) (input : TxIn) → i < length inputs → input ≡ get_or inputs i input → slice_get (prevs inputs) i ≡ Some input.prev
at_place [] i input lt is = absurd (omega arith)
at_place (first ∷ inputs) zero input lt is = ap (λ (x : TxIn). Some x.prev) (sym is)
at_place (first ∷ inputs) (suc i) input lt is = at_place inputs i input (omega arith) is

later : (first : TxIn) (inputs : List TxIn) → SpendsTwice inputs → SpendsTwice (first ∷ inputs)
later first inputs h = (h.0, suc h.1, suc h.2, omega (arith, h.3), h.4, h.5)

pub named_twice : (inputs : List TxIn) (i : ℕ) (input : TxIn) → i < length inputs → input ≡ get_or inputs i input → IsNamed (take i inputs) input.prev → SpendsTwice inputs
named_twice [] i input lt is named = absurd (omega arith)
named_twice (first ∷ inputs) zero input lt is named = absurd named
named_twice (first ∷ inputs) (suc i) input lt is (inl here) =
    (input.prev, 0, suc i, omega arith, ap Some here, at_place inputs i input (omega arith) is)
named_twice (first ∷ inputs) (suc i) input lt is (inr rest) = later first inputs (named_twice inputs i input (omega arith) is rest)

-- what stands at the output of an input that comes behind others
pub seen_at : (u : Unspent) (inputs : List TxIn) (i : ℕ) (input : TxIn) → ¬ SpendsTwice inputs → i < length inputs → input ≡ get_or inputs i input
    → finite.get (without_inputs u (take i inputs)) input.prev ≡ finite.get u input.prev
seen_at u inputs i input once lt is = without_other input.prev u (take i inputs) (λ named. once (named_twice inputs i input lt is named))

pub named_any : (inputs : List TxIn) (q : OutPoint) → IsNamed inputs q → Any (λ (input : TxIn). input.prev ≡ q) inputs
named_any [] q named = absurd named
named_any (first ∷ inputs) q (inl here) = (0, first, omega arith, refl, here)
named_any (first ∷ inputs) q (inr rest) = let k = named_any inputs q rest in (suc k.0, k.1, omega (arith, k.2), k.3, k.4)

pub any_at : (inputs : List TxIn) (q : OutPoint) (k : ℕ) (x : TxIn) → k < length inputs → get_or inputs k x ≡ x → x.prev ≡ q → IsNamed inputs q
any_at [] q k x lt at is = absurd (omega arith)
any_at (first ∷ inputs) q zero x lt at is = inl (ap (λ (y : TxIn). y.prev) at ∙ is)
any_at (first ∷ inputs) q (suc k) x lt at is = inr (any_at inputs q k x (omega arith) at is)

any_named : (inputs : List TxIn) (q : OutPoint) → Any (λ (input : TxIn). input.prev ≡ q) inputs → IsNamed inputs q
any_named inputs q h = any_at inputs q h.0 h.1 h.2 h.3 h.4

-- an output is unspent behind the inputs: it was before, and none names it
pub still_there : (u : Unspent) (inputs : List TxIn) (q : OutPoint) → is_some (finite.get u q) ≡ true → ¬ Any (λ (input : TxIn). input.prev ≡ q) inputs
    → finite.contains_key (without_inputs u inputs) q ≡ true
still_there u inputs q there other = ap is_some (without_other q u inputs (λ named. other (named_any inputs q named))) ∙ there

pub gone_named : (u : Unspent) (inputs : List TxIn) (q : OutPoint) → Any (λ (input : TxIn). input.prev ≡ q) inputs → finite.get (without_inputs u inputs) q ≡ None
gone_named u inputs q named = without_named q u inputs (any_named inputs q named)

-- ---- outputs

at : Hash256 → ℕ → OutPoint
at txid place = record { txid = txid; index = place }

-- one output more
with_next : (u : Unspent) (txid : Hash256) (place : ℕ) (outputs : List TxOut) (i : ℕ) (output : TxOut) → i < length outputs → output ≡ get_or outputs i output
    → with_outputs u txid place (take (suc i) outputs) ≡ finite.insert (with_outputs u txid place (take i outputs)) (record { txid = txid; index = place + i }) output.value
unfolding with_outputs
with_next u txid place [] i output lt is = absurd (omega arith)
with_next u txid place (first ∷ outputs) zero output lt is =
    let here : place + 0 ≡ place = omega arith in
    ap (λ (x : TxOut). finite.insert u (record { txid = txid; index = place }) x.value) (sym is) ∙ ap (λ (n : ℕ). finite.insert u (record { txid = txid; index = n }) output.value) (sym here)
with_next u txid place (first ∷ outputs) (suc i) output lt is =
    let next : suc place + i ≡ place + suc i = omega arith in
    let point : OutPoint = record { txid = txid; index = place } in
    with_next (finite.insert u point first.value) txid (suc place) outputs i output (omega arith) is
    ∙ ap (λ (n : ℕ). finite.insert (with_outputs (finite.insert u point first.value) txid (suc place) (take i outputs)) (record { txid = txid; index = n }) output.value) next

pub with_more : (u : Unspent) (txid : Hash256) (outputs : List TxOut) (i : ℕ) (output : TxOut) → i < length outputs → output ≡ get_or outputs i output
    → with_outputs u txid 0 (take (i + 1) outputs) ≡ finite.insert (with_outputs u txid 0 (take i outputs)) (record { txid = txid; index = i }) output.value
with_more u txid outputs i output lt is =
    let next : i + 1 ≡ suc i = omega arith in
    let place : 0 + i ≡ i = omega arith in
    ap (λ (n : ℕ). with_outputs u txid 0 (take n outputs)) next
    ∙ with_next u txid 0 outputs i output lt is
    ∙ ap (λ (n : ℕ). finite.insert (with_outputs u txid 0 (take i outputs)) (record { txid = txid; index = n }) output.value) place

pub with_all : (u : Unspent) (txid : Hash256) (outputs : List TxOut) (i : ℕ) → length outputs ≤ i → with_outputs u txid 0 (take i outputs) ≡ with_outputs u txid 0 outputs
with_all u txid outputs i le = ap (with_outputs u txid 0) (take_all i outputs le)

-- the outputs before a place are other ones
pub with_other : (u : Unspent) (txid : Hash256) (place : ℕ) (outputs : List TxOut) (k : ℕ) → place + length outputs ≤ k
    → finite.get (with_outputs u txid place outputs) (record { txid = txid; index = k }) ≡ finite.get u (record { txid = txid; index = k })
unfolding with_outputs
with_other u txid place [] k le = refl
with_other u txid place (output ∷ outputs) k le =
    let point : OutPoint = record { txid = txid; index = place } in
    with_other (finite.insert u point output.value) txid (suc place) outputs k (omega arith)
    ∙ insert_other (record { txid = txid; index = k }) u point output.value (λ p. absurd (omega (arith, ap (λ (x : OutPoint). x.index) p)))

-- ---- what a loop over inputs has found, which takes none of them out

plus_none : (spent : Result (ℤ × Unspent) Fault) → with_sum (pos 0) spent ≡ spent
plus_none (Ok x) = ap (λ (s : ℤ). Ok (s, x.1)) (+ℤ_idl x.0)
plus_none (Err fault) = refl

pub worth_start : (u : Unspent) (inputs : List TxIn) → with_sum (pos 0) (spend_inputs (without_inputs u []) inputs) ≡ spend_inputs u inputs
unfolding without_inputs
worth_start u inputs = plus_none (spend_inputs u inputs)

pub worth_more : (u : Unspent) (inputs : List TxIn) (i : ℕ) (input : TxIn) (sum value : ℤ) (all : Result (ℤ × Unspent) Fault) → ¬ SpendsTwice inputs → i < length inputs → input ≡ get_or inputs i input
    → finite.get u input.prev ≡ Some value → with_sum sum (spend_inputs (without_inputs u (take i inputs)) (drop i inputs)) ≡ all
    → with_sum (sum +ℤ value) (spend_inputs (without_inputs u (take (i + 1) inputs)) (drop (i + 1) inputs)) ≡ all
worth_more u inputs i input sum value all once lt is has so_far =
    inputs_more (without_inputs u (take i inputs)) (without_inputs u (take (i + 1) inputs)) inputs i input sum value all lt is
    (seen_at u inputs i input once lt is ∙ has) (without_more u inputs i input lt is) so_far

pub worth_refused : (u : Unspent) (inputs : List TxIn) (i : ℕ) (input : TxIn) (sum : ℤ) (all : Result (ℤ × Unspent) Fault) → ¬ SpendsTwice inputs → i < length inputs → input ≡ get_or inputs i input
    → finite.get u input.prev ≡ None → with_sum sum (spend_inputs (without_inputs u (take i inputs)) (drop i inputs)) ≡ all → all ≡ Err NoInput
worth_refused u inputs i input sum all once lt is has so_far =
    inputs_refused (without_inputs u (take i inputs)) inputs i input sum all lt is (seen_at u inputs i input once lt is ∙ has) so_far

pub worth_end : (u : Unspent) (inputs : List TxIn) (i : ℕ) (sum : ℤ) (all : Result (ℤ × Unspent) Fault) → length inputs ≤ i
    → with_sum sum (spend_inputs (without_inputs u (take i inputs)) (drop i inputs)) ≡ all → all ≡ Ok (sum, without_inputs u inputs)
worth_end u inputs i sum all le so_far =
    inputs_end (without_inputs u (take i inputs)) inputs i sum all le so_far ∙ ap (λ (m : Unspent). Ok (sum, m)) (without_all u inputs i le)

-- ---- and one over outputs, behind these inputs, which puts none of them in

pub remade_more : (left : Unspent) (txid : Hash256) (outputs : List TxOut) (i : ℕ) (output : TxOut) (all : Result Unspent Fault) → i < length outputs → output ≡ get_or outputs i output
    → finite.get left (record { txid = txid; index = i }) ≡ None
    → make_outputs (with_outputs left txid 0 (take i outputs)) txid i (drop i outputs) ≡ all
    → make_outputs (with_outputs left txid 0 (take (i + 1) outputs)) txid (i + 1) (drop (i + 1) outputs) ≡ all
remade_more left txid outputs i output all lt is none so_far =
    outputs_more (with_outputs left txid 0 (take i outputs)) (with_outputs left txid 0 (take (i + 1) outputs)) txid outputs i output all lt is
    (with_other left txid 0 (take i outputs) i (omega (arith, length-take i outputs)) ∙ none) (with_more left txid outputs i output lt is) so_far

pub remade_here : (left : Unspent) (txid : Hash256) (outputs : List TxOut) (i : ℕ) (output : TxOut) (all : Result Unspent Fault) → i < length outputs → output ≡ get_or outputs i output
    → finite.contains_key left (record { txid = txid; index = i }) ≡ true
    → make_outputs (with_outputs left txid 0 (take i outputs)) txid i (drop i outputs) ≡ all → all ≡ Err Remade
remade_here left txid outputs i output all lt is there so_far =
    outputs_refused (with_outputs left txid 0 (take i outputs)) txid outputs i output all lt is
    (ap is_some (with_other left txid 0 (take i outputs) i (omega (arith, length-take i outputs))) ∙ there) so_far

pub remade_end : (left : Unspent) (txid : Hash256) (outputs : List TxOut) (i : ℕ) (all : Result Unspent Fault) → length outputs ≤ i
    → make_outputs (with_outputs left txid 0 (take i outputs)) txid i (drop i outputs) ≡ all → all ≡ Ok (with_outputs left txid 0 outputs)
remade_end left txid outputs i all le so_far =
    outputs_end (with_outputs left txid 0 (take i outputs)) txid outputs i all le so_far ∙ ap Ok (with_all left txid outputs i le)
