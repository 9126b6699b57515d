-- Marks of outputs at which two UTXO sets differ.
use Rattle.std.proofs.Common.{◌≡◌, ℕ, zero, suc, ◌+◌, ◌<◌, ◌≤◌, ◌⊎◌, ℤ, Bool, true, false, cond, List, [], ◌∷◌, ◌++◌, length, get_or, take, None, Option, Some, Ok, Err, Result, is_some, refl, sym, ap, subst, ◌∙◌, arith, inl, inr}
use Rattle.std.specs.Prelude.{◌≢◌, All, Any, nat_lt, int_lt, not}
use Rattle.std.specs.FinMap as finite
use Rattle.std.proofs.lemmas.Bool.{cases_Bool, false≢true, ltb-true, ltb-false}
use Rattle.std.proofs.lemmas.List.{take_more}
use lib.Pointwise.{bytes_decides}
use Rattle.cb_base.specs.Reading.{◌>>=◌}
use Rattle.cb_base.specs.declared.fault.Fault.TheVariants.{Overspent, Remade}
use Rattle.cb_base.specs.declared.hash.Hash256.{Hash256}
use Rattle.cb_base.proofs.Fields.{bind_ok, ok_is}
use Rattle.cb_block.specs.declared.tx.OutPoint.{OutPoint}
use Rattle.cb_block.specs.declared.tx.TxIn.{TxIn}
use Rattle.cb_block.specs.declared.tx.TxOut.{TxOut}
use Rattle.cb_block.specs.declared.tx.Tx.{Tx}
use Rattle.cb_block.specs.TxRules.{value_sum}
use Rattle.cb_block.proofs.Repeats.{same-true, same-refl}
use Rattle.cb_ledger.specs.Spend.{is_coinbase, make_outputs, spend, spend_inputs, spend_tx}
use Rattle.cb_ledger.specs.Touched.{IsNamed}
use Rattle.cb_ledger.specs.Unspent.{Unspent}
use Rattle.cb_ledger.proofs.Sums.{test_ok}
use Rattle.cb_pool.specs.declared.marks.OutputMark.{OutputMark}
use Rattle.cb_pool.specs.declared.marks.OutputMark.TheVariants.{Gone, Holds, Same, Unknown}
use Rattle.cb_pool.specs.Leaving.{after_tx, with_outputs, without_inputs}
use Rattle.cb_pool.specs.Rules.{same}
use Rattle.cb_block.specs.Txid.{txid_of}
use Rattle.cb_pool.specs.Staying.{AreMarked, IsLevel, Marking, Moves, Says, Tells, is_gone, mark_at, same_point}
use Rattle.cb_pool.specs.Touching.{IsTouchedBy}
use Rattle.cb_pool.proofs.Left.{any_at, insert_other, named_any, without_named, without_other}
use Rattle.cb_pool.proofs.Spent.{inputs_leave, outputs_leave}
use Rattle.cb_pool.proofs.Untouched.{insert_here, named_in, none_of}

-- one output has a mark, and all others what they had
abbrev pub Put : OutPoint → OutputMark → Marking → Marking → Type 0
Put k mark old new = (q : OutPoint) → mark_at new q ≡ cond (same_point k q) (Some mark) (mark_at old q)

apart : (k q : OutPoint) → same_point k q ≡ false → k ≢ q
apart k q isnt e = false≢true (sym isnt ∙ subst (λ (p : OutPoint). same_point k p ≡ true) e (same-refl k))

-- ---- inputs

named_front : (front : List TxIn) (input : TxIn) (q : OutPoint) → IsNamed front q → IsNamed (front ++ input ∷ []) q
named_front [] input q named = absurd named
named_front (first ∷ front) input q (inl here) = inl here
named_front (first ∷ front) input q (inr later) = inr (named_front front input q later)

named_last : (front : List TxIn) (input : TxIn) (q : OutPoint) → input.prev ≡ q → IsNamed (front ++ input ∷ []) q
named_last [] input q is = inl is
named_last (first ∷ front) input q is = inr (named_last front input q is)

marked_last : (front : List TxIn) (input : TxIn) (mark : OutputMark) (old mid new : Marking) → Put input.prev mark mid new → AreMarked front mark old mid → AreMarked (front ++ input ∷ []) mark old new
marked_last front input mark old mid new put so_far q =
    elim (cases_Bool (same_point input.prev q)) [
      | inl is ↦ inl (named_last front input q (same-true input.prev q is), put q ∙ rw is refl)
      | inr isnt ↦
          elim (so_far q) [
            | inl there ↦ inl (named_front front input q there.0, put q ∙ rw isnt there.1)
            | inr other ↦
                let none : ¬ IsNamed (front ++ input ∷ []) q = λ named.
                elim (named_in front input q named) [
                  | inl before ↦ other.0 before
                  | inr here ↦ apart input.prev q isnt here
                ] in
                inr (none, put q ∙ rw isnt other.1)
          ]
    ]

pub marked_none : (mark : OutputMark) (old : Marking) → AreMarked [] mark old old
marked_none mark old q = inr (λ named. named, refl)

pub marked_more : (inputs : List TxIn) (i : ℕ) (input : TxIn) (mark : OutputMark) (old mid new : Marking) → i < length inputs → input ≡ get_or inputs i input → Put input.prev mark mid new
    → AreMarked (take i inputs) mark old mid → AreMarked (take (i + 1) inputs) mark old new
marked_more inputs i input mark old mid new lt is put so_far =
    let longer : take (i + 1) inputs ≡ take i inputs ++ input ∷ [] = take_more inputs i input lt ∙ ap (λ (x : TxIn). take i inputs ++ x ∷ []) (sym is) in
    subst (λ (l : List TxIn). AreMarked l mark old new) (sym longer) (marked_last (take i inputs) input mark old mid new put so_far)

pub gone_tells : (inputs : List TxIn) (old new : Marking) (was now : Unspent) → AreMarked inputs Gone old new → Tells old was now → Tells new was (without_inputs now inputs)
gone_tells inputs old new was now marked tells q =
    let left = finite.get was q in
    let right = finite.get (without_inputs now inputs) q in
    elim (marked q) [
      | inl there ↦ subst (λ (m : Option OutputMark). Says m left right) (sym there.1) (without_named q now inputs there.0)
      | inr other ↦
          let stays : Says (mark_at old q) left right = subst (Says (mark_at old q) left) (sym (without_other q now inputs other.0)) (tells q) in
          subst (λ (m : Option OutputMark). Says m left right) (sym other.1) stays
    ]

pub unknown_tells : (inputs : List TxIn) (old new : Marking) (was now : Unspent) → AreMarked inputs Unknown old new → Tells old was now → Tells new (without_inputs was inputs) now
unknown_tells inputs old new was now marked tells q =
    let left = finite.get (without_inputs was inputs) q in
    let right = finite.get now q in
    elim (marked q) [
      | inl there ↦ subst (λ (m : Option OutputMark). Says m left right) (sym there.1) tt
      | inr other ↦
          let stays : Says (mark_at old q) left right = subst (λ (v : Option ℤ). Says (mark_at old q) v right) (sym (without_other q was inputs other.0)) (tells q) in
          subst (λ (m : Option OutputMark). Says m left right) (sym other.1) stays
    ]

marked_keys : (inputs : List TxIn) (mark : OutputMark) (old new : Marking) (q : OutPoint) → AreMarked inputs mark old new → mark_at new q ≡ None → (mark_at old q ≡ None) × (¬ IsNamed inputs q)
marked_keys inputs mark old new q marked none =
    elim (marked q) [
      | inl there ↦ absurd (let e : Some mark ≡ None = sym there.1 ∙ none in cc)
      | inr other ↦ (sym other.1 ∙ none, other.0)
    ]

-- ---- outputs

pub made_more : (mid new : Marking) (k : OutPoint) (v : ℤ) (was now : Unspent) → Put k (Holds v) mid new → Tells mid was now → Tells new was (finite.insert now k v)
made_more mid new k v was now put tells q =
    let left = finite.get was q in
    let right = finite.get (finite.insert now k v) q in
    elim (cases_Bool (same_point k q)) [
      | inl is ↦
          let here : mark_at new q ≡ Some (Holds v) = put q ∙ rw is refl in
          subst (λ (m : Option OutputMark). Says m left right) (sym here) (insert_here q now k v (same-true k q is))
      | inr isnt ↦
          let there : mark_at new q ≡ mark_at mid q = put q ∙ rw isnt refl in
          let stays : Says (mark_at mid q) left right = subst (Says (mark_at mid q) left) (sym (insert_other q now k v (apart k q isnt))) (tells q) in
          subst (λ (m : Option OutputMark). Says m left right) (sym there) stays
    ]

pub missed_more : (mid new : Marking) (k : OutPoint) (v : ℤ) (mark : OutputMark) (was now : Unspent) → Put k mark mid new → ((x : Option ℤ) → Says (mark_at mid k) None x → Says (Some mark) (Some v) x)
    → finite.get was k ≡ None → Tells mid was now → Tells new (finite.insert was k v) now
missed_more mid new k v mark was now put behind none tells q =
    let left = finite.get (finite.insert was k v) q in
    let right = finite.get now q in
    elim (cases_Bool (same_point k q)) [
      | inl is ↦
          let e : k ≡ q = same-true k q is in
          let here : mark_at new q ≡ Some mark = put q ∙ rw is refl in
          let before : Says (mark_at mid k) None (finite.get now k) = subst (λ (x : Option ℤ). Says (mark_at mid k) x (finite.get now k)) none (tells k) in
          let after : Says (Some mark) (Some v) (finite.get now k) = behind (finite.get now k) before in
          let moved : Says (Some mark) (Some v) right = subst (λ (p : OutPoint). Says (Some mark) (Some v) (finite.get now p)) e after in
          subst (λ (m : Option OutputMark). Says m left right) (sym here) (subst (λ (x : Option ℤ). Says (Some mark) x right) (sym (insert_here q was k v e)) moved)
      | inr isnt ↦
          let there : mark_at new q ≡ mark_at mid q = put q ∙ rw isnt refl in
          let stays : Says (mark_at mid q) left right = subst (λ (x : Option ℤ). Says (mark_at mid q) x right) (sym (insert_other q was k v (apart k q isnt))) (tells q) in
          subst (λ (m : Option OutputMark). Says m left right) (sym there) stays
    ]

-- what can be made wasn't there
pub not_made : (u w : Unspent) (txid : Hash256) (place : ℕ) (outputs : List TxOut) (k : ℕ) → make_outputs u txid place outputs ≡ Ok w → place ≤ k → k < place + length outputs
    → finite.get u (record { txid = txid; index = k }) ≡ None
unfolding make_outputs
not_made u w txid place [] k e le lt = absurd (omega (arith, le, lt))
not_made u w txid place (output ∷ outputs) k e le lt =
    let point : OutPoint = record { txid = txid; index = place } in
    let t = test_ok (finite.contains_key u point) Remade (make_outputs (finite.insert u point output.value) txid (suc place) outputs) w e in
    elim (cases_Bool (nat_lt place k)) [
      | inl above ↦
          let low = ltb-true place k above in
          let rest = not_made (finite.insert u point output.value) w txid (suc place) outputs k t.1 (omega (arith, low)) (omega (arith, lt)) in
          sym (insert_other (record { txid = txid; index = k }) u point output.value (λ p. absurd (omega (arith, low, ap (λ (x : OutPoint). x.index) p)))) ∙ rest
      | inr here ↦
          let high = ltb-false place k here in
          let level : place ≡ k = omega (arith, le, high) in
          subst (λ (n : ℕ). finite.get u (record { txid = txid; index = n }) ≡ None) level (none_of (finite.get u point) t.0)
    ]

-- the outputs so far have marks
abbrev pub HaveMarks : Hash256 → ℕ → Marking → Marking → Type 0
HaveMarks txid count old new = (q : OutPoint) → mark_at new q ≡ None → (mark_at old q ≡ None) × (¬ ((q.txid ≡ txid) × (q.index < count)))

pub have_more : (txid : Hash256) (i : ℕ) (mark : OutputMark) (old mid new : Marking) → Put (record { txid = txid; index = i }) mark mid new → HaveMarks txid i old mid → HaveMarks txid (i + 1) old new
have_more txid i mark old mid new put so_far q none =
    let k : OutPoint = record { txid = txid; index = i } in
    elim (cases_Bool (same_point k q)) [
      | inl is ↦ absurd (let e : Some mark ≡ None = sym (put q ∙ rw is refl) ∙ none in cc)
      | inr isnt ↦
          let there : mark_at mid q ≡ None = sym (put q ∙ rw isnt refl) ∙ none in
          let before = so_far q there in (
            before.0,
            λ both.
                elim (cases_Bool (nat_lt q.index i)) [
                  | inl below ↦ before.1 (both.0, ltb-true q.index i below)
                  | inr above ↦
                      let high = ltb-false q.index i above in
                      let level : i ≡ q.index = omega (arith, both.1, high) in
                      let name = both.0 in
                      let is : k ≡ q = λ j. record { txid = sym name j; index = level j } in
                      apart k q isnt is
                ],
          )
    ]

-- ---- a transaction

pub parts_of : (u w : Unspent) (tx : Tx) → is_coinbase tx.inputs ≡ false → spend_tx u tx ≡ Ok w → (x : ℤ × Unspent) × (spend_inputs u tx.inputs ≡ Ok x) × (make_outputs x.1 (txid_of tx) 0 tx.outputs ≡ Ok w)
unfolding spend_tx
parts_of u w tx other e =
    let txid = txid_of tx in
    let both : (spend_inputs u tx.inputs >>= λ s. cond (int_lt s.0 (value_sum tx.outputs)) (Err Overspent) (make_outputs s.1 txid 0 tx.outputs)) ≡ Ok w = rw other at e in
    let a = bind_ok (spend_inputs u tx.inputs) (λ s. cond (int_lt s.0 (value_sum tx.outputs)) (Err Overspent) (make_outputs s.1 txid 0 tx.outputs)) w both in
    let t = test_ok (int_lt a.0.0 (value_sum tx.outputs)) Overspent (make_outputs a.0.1 txid 0 tx.outputs) w a.2 in
    (a.0, a.1, t.1)

pub moves_from : (tx : Tx) (txid : Hash256) (inputs : List TxIn) (outputs : List TxOut) (old mid new : Marking) → is_coinbase tx.inputs ≡ false → txid ≡ txid_of tx → inputs ≡ tx.inputs → outputs ≡ tx.outputs
    → AreMarked inputs Unknown old mid
    → ((was now next : Unspent) → make_outputs was txid 0 outputs ≡ Ok next → Tells mid was now → Tells new (with_outputs was txid 0 outputs) now)
    → HaveMarks txid (length outputs) mid new → Moves tx old new
moves_from tx txid inputs outputs old mid new other name ins outs marked missed have = record {
  tells = λ was now next e tells.
      let p = parts_of was next tx other e in
      let left : p.0.1 ≡ without_inputs was tx.inputs = inputs_leave was tx.inputs p.0 p.1 in
      let made : make_outputs p.0.1 txid 0 outputs ≡ Ok next = rw (name, outs) p.2 in
      let behind : next ≡ with_outputs p.0.1 txid 0 outputs = outputs_leave p.0.1 txid 0 outputs next made in
      let first : Tells mid (without_inputs was inputs) now = unknown_tells inputs old mid was now marked tells in
      let first_there : Tells mid p.0.1 now = subst (λ (m : Unspent). Tells mid m now) (ap (without_inputs was) ins ∙ sym left) first in
      subst (λ (m : Unspent). Tells new m now) (sym behind) (missed p.0.1 now next made first_there);
  marked = λ q none.
      let after = have q none in
      let before = marked_keys inputs Unknown old mid q marked after.0 in (
        before.0,
        λ touched. by q before.1 after.1 touched,
      );
} where
  by : (q : OutPoint) → ¬ IsNamed inputs q → ¬ ((q.txid ≡ txid) × (q.index < length outputs)) → ¬ IsTouchedBy tx q
  by q unnamed unmade (inl named) = unnamed (subst (λ (l : List TxIn). IsNamed l q) (sym ins) named)
  by q unnamed unmade (inr made) = unmade (made.0 ∙ sym name, omega (arith, made.1, ap length outs))

-- what a transaction of a block leaves
pub block_tx_tells : (tx : Tx) (txid : Hash256) (outputs : List TxOut) (old mid new : Marking) (was now next : Unspent) → txid ≡ txid_of tx → outputs ≡ tx.outputs
    → ((is_coinbase tx.inputs ≡ true) × (mid ≡ old)) ⊎ ((is_coinbase tx.inputs ≡ false) × AreMarked tx.inputs Gone old mid)
    → ((was now : Unspent) → Tells mid was now → Tells new was (with_outputs now txid 0 outputs)) → spend_tx now tx ≡ Ok next → Tells old was now → Tells new was next
unfolding spend_tx
block_tx_tells tx txid outputs old mid new was now next name outs (inl coinbase) made e tells =
    let is = coinbase.0 in
    let only : make_outputs now (txid_of tx) 0 tx.outputs ≡ Ok next = rw is at e in
    let here : make_outputs now txid 0 outputs ≡ Ok next = rw (name, outs) only in
    let behind : next ≡ with_outputs now txid 0 outputs = outputs_leave now txid 0 outputs next here in
    subst (Tells new was) (sym behind) (made was now (subst (λ (m : Marking). Tells m was now) (sym coinbase.1) tells))
block_tx_tells tx txid outputs old mid new was now next name outs (inr other) made e tells =
    let p = parts_of now next tx other.0 e in
    let left : p.0.1 ≡ without_inputs now tx.inputs = inputs_leave now tx.inputs p.0 p.1 in
    let here : make_outputs p.0.1 txid 0 outputs ≡ Ok next = rw (name, outs) p.2 in
    let behind : next ≡ with_outputs p.0.1 txid 0 outputs = outputs_leave p.0.1 txid 0 outputs next here in
    let first : Tells mid was p.0.1 = subst (Tells mid was) (sym left) (gone_tells tx.inputs old mid was now other.1 tells) in
    subst (Tells new was) (sym behind) (made was p.0.1 first)

-- ---- marks that say nothing against a transaction

pub at_touched : (P : Option OutputMark → Type 0) (marks : Marking) (tx : Tx) (txid : Hash256) (inputs : List TxIn) → P None → inputs ≡ tx.inputs → txid ≡ txid_of tx
    → All (λ (input : TxIn). P (mark_at marks input.prev)) inputs → ((index : ℕ) → mark_at marks (record { txid = txid; index = index }) ≡ None) → (q : OutPoint) → IsTouchedBy tx q → P (mark_at marks q)
at_touched P marks tx txid inputs none ins name all free q (inl named) =
    let k = named_any inputs q (subst (λ (l : List TxIn). IsNamed l q) (sym ins) named) in
    subst (λ (p : OutPoint). P (mark_at marks p)) (ap (λ (x : TxIn). x.prev) k.3 ∙ k.4) (all k.0 k.1 k.2)
at_touched P marks tx txid inputs none ins name all free q (inr made) =
    let is : ◌≡◌ {A = OutPoint} (record { txid = txid; index = q.index }) q = λ i. record { txid = (name ∙ sym made.0) i; index = q.index } in
    subst (λ (p : OutPoint). P (mark_at marks p)) is (subst P (sym (free q.index)) none)

pub gone_at : (marks : Marking) (inputs : List TxIn) → Any (λ (input : TxIn). mark_at marks input.prev ≡ Some Gone) inputs → (q : OutPoint) × IsNamed inputs q × (mark_at marks q ≡ Some Gone)
gone_at marks inputs h = (h.1.prev, any_at inputs h.1.prev h.0 h.1 h.2 h.3 refl, h.4)

-- ---- the txids of what has marks

abbrev pub Named : Marking → List Hash256 → Type 0
Named marks txids = (q : OutPoint) → is_some (mark_at marks q) ≡ true → is_gone txids q.txid ≡ true

grown : (txid other : Hash256) (txids more : List Hash256) → ((t : Hash256) → is_gone more t ≡ cond (same txid t) true (is_gone txids t)) → is_gone txids other ≡ true → is_gone more other ≡ true
grown txid other txids more added there =
    elim (cases_Bool (same txid other)) [
      | inl is ↦ added other ∙ rw is refl
      | inr isnt ↦ added other ∙ rw isnt there
    ]

pub named_stay : (old new : Marking) (txid : Hash256) (txids more : List Hash256) → ((t : Hash256) → is_gone more t ≡ cond (same txid t) true (is_gone txids t)) → new ≡ old → Named old txids → Named new more
named_stay old new txid txids more added same_marks named q some =
    grown txid q.txid txids more added (named q (ap (λ (m : Marking). is_some (mark_at m q)) (sym same_marks) ∙ some))

pub named_put : (old new : Marking) (k : OutPoint) (mark : OutputMark) (txids more : List Hash256) → ((t : Hash256) → is_gone more t ≡ cond (same k.txid t) true (is_gone txids t)) → Put k mark old new → Named old txids → Named new more
named_put old new k mark txids more added put named q some =
    elim (cases_Bool (same_point k q)) [
      | inl is ↦
          let here : same k.txid q.txid ≡ true = ap (λ (p : OutPoint). same k.txid p.txid) (sym (same-true k q is)) ∙ (bytes_decides k.txid.0 k.txid.0).1 refl in
          added q.txid ∙ rw here refl
      | inr isnt ↦ grown k.txid q.txid txids more added (named q (ap is_some (sym (put q ∙ rw isnt refl)) ∙ some))
    ]

-- a txid that isn't among them has no marks
pub unnamed : (marks : Marking) (txids : List Hash256) (txid : Hash256) (index : ℕ) → Named marks txids → is_gone txids txid ≡ false → mark_at marks (record { txid = txid; index = index }) ≡ None
unnamed marks txids txid index named isnt =
    let point : OutPoint = record { txid = txid; index = index } in
    elim (cases_Bool (is_some (mark_at marks point))) [
      | inl some ↦ absurd (false≢true (sym isnt ∙ named point some))
      | inr none ↦ none_at (mark_at marks point) none
    ]
  where
    none_at : (m : Option OutputMark) → is_some m ≡ false → m ≡ None
    none_at None e = refl
    none_at (Some mark) e = absurd (false≢true (sym e))

pub not_so : (b : Bool) → not b ≡ true → b ≡ false
not_so true e = absurd (false≢true e)
not_so false e = refl

pub not_not : (b : Bool) → not b ≡ false → b ≡ true
not_not true e = refl
not_not false e = absurd (false≢true (sym e))
