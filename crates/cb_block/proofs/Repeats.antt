-- Looking for an output that is spent twice, by a set of those that were seen.
use Rattle.std.proofs.Common.{◌≡◌, ℕ, zero, suc, ◌+◌, ◌<◌, ◌⊎◌, Bool, true, false, cond, eqb, List, [], ◌∷◌, ◌++◌, length, get_or, take, drop, map, Some, refl, sym, ap, subst, ◌∙◌, arith, inl, inr}
use Rattle.std.specs.Prelude.{slice_get, not, ◌&&◌}
use Rattle.std.proofs.lemmas.Bool.{eqb-true, eq-eqb, false≢true, cases_Bool}
use Rattle.std.proofs.lemmas.List.{take-append-drop, take_more, map-append}
use lib.Pointwise.{pointwise, bytes_decides}
use Rattle.cb_block.specs.declared.tx.OutPoint.{OutPoint}
use Rattle.cb_block.specs.declared.tx.TxIn.{TxIn}
use Rattle.cb_block.specs.TxRules.{SpendsTwice}

-- what `==` says of two outputs
abbrev pub same : OutPoint → OutPoint → Bool
same a b = pointwise eqb a.txid.0 b.txid.0 && eqb a.index b.index

and_parts : (a b : Bool) → (a && b) ≡ true → (a ≡ true) × (b ≡ true)
and_parts true b e = (refl, e)
and_parts false b e = absurd (false≢true e)

pub same-true : (a b : OutPoint) → same a b ≡ true → a ≡ b
same-true a b e =
    let p = and_parts (pointwise eqb a.txid.0 b.txid.0) (eqb a.index b.index) e in
    let bytes : a.txid.0 ≡ b.txid.0 = (bytes_decides a.txid.0 b.txid.0).0 p.0 in
    let first : a ≡ record { txid = b.txid; index = a.index } = ap (λ (x : List ℕ). record { txid = record { 0 = x }; index = a.index }) bytes in
    let second : ◌≡◌ {A = OutPoint} (record { txid = b.txid; index = a.index }) b = ap (λ (n : ℕ). record { txid = b.txid; index = n }) (eqb-true _ _ p.1) in
    first ∙ second

pub same-refl : (a : OutPoint) → same a a ≡ true
same-refl a =
    let bytes : pointwise eqb a.txid.0 a.txid.0 ≡ true = (bytes_decides a.txid.0 a.txid.0).1 refl in
    let index : eqb a.index a.index ≡ true = eq-eqb _ _ refl in
    rw (bytes, index) refl

not-true : (b : Bool) → not b ≡ true → b ≡ false
not-true true e = sym e
not-true false e = refl

not-false : (b : Bool) → not b ≡ false → b ≡ true
not-false true e = refl
not-false false e = sym e

-- ---- places

get_front : {A : Type 0} (xs ys : List A) (i : ℕ) (x : A) → slice_get xs i ≡ Some x → slice_get (xs ++ ys) i ≡ Some x
get_front [] ys i x e = absurd cc
get_front (y ∷ xs) ys zero x e = e
get_front (y ∷ xs) ys (suc i) x e = get_front xs ys i x e

get_last : {A : Type 0} (xs : List A) (x : A) → slice_get (xs ++ x ∷ []) (length xs) ≡ Some x
get_last [] x = refl
get_last (y ∷ xs) x = get_last xs x

get_below : {A : Type 0} (xs : List A) (i : ℕ) (x : A) → slice_get xs i ≡ Some x → i < length xs
get_below [] i x e = absurd cc
get_below (y ∷ xs) zero x e = omega arith
get_below (y ∷ xs) (suc i) x e = omega (arith, get_below xs i x e)

-- a place of a list with one more is a place of the list, or the last
get_push : {A : Type 0} (xs : List A) (y : A) (i : ℕ) (x : A) → slice_get (xs ++ y ∷ []) i ≡ Some x → (slice_get xs i ≡ Some x) ⊎ ((i ≡ length xs) × (x ≡ y))
get_push [] y zero x e = inr (refl, cc)
get_push [] y (suc i) x e = absurd cc
get_push (z ∷ xs) y zero x e = inl e
get_push (z ∷ xs) y (suc i) x e =
    elim (get_push xs y i x e) [ inl h ↦ inl h | inr h ↦ inr (ap suc h.0, h.1) ]

abbrev pub prevs : List TxIn → List OutPoint
prevs inputs = map (λ input. input.prev) inputs

pub spends_twice_more : (xs ys : List TxIn) → SpendsTwice xs → SpendsTwice (xs ++ ys)
spends_twice_more xs ys h =
    let joined : prevs (xs ++ ys) ≡ prevs xs ++ prevs ys = map-append (λ (x : TxIn). x.prev) xs ys in
    (h.0, h.1, h.2, h.3, rw joined (get_front (prevs xs) (prevs ys) h.1 h.0 h.4), rw joined (get_front (prevs xs) (prevs ys) h.2 h.0 h.5))

-- ---- the outputs that were seen

-- The set has exactly the outputs that the inputs spend, and none is spent twice.
pub record IsSeen (has : OutPoint → Bool) (inputs : List TxIn) : Type 0 where
  pub known : (prev : OutPoint) → has prev ≡ true → (i : ℕ) × (slice_get (prevs inputs) i ≡ Some prev)
  pub all : (prev : OutPoint) (i : ℕ) → slice_get (prevs inputs) i ≡ Some prev → has prev ≡ true
  pub apart : ¬ SpendsTwice inputs

pub seen_none : (has : OutPoint → Bool) → ((prev : OutPoint) → has prev ≡ false) → IsSeen has []
seen_none has empty = record {
  known = λ prev e. absurd (false≢true (sym (empty prev) ∙ e));
  all = λ prev i e. absurd cc;
  apart = λ h. absurd (let e = h.4 in cc);
}

-- one input more, whose output wasn't there
pub seen_more : (has next : OutPoint → Bool) (inputs : List TxIn) (x : TxIn) → IsSeen has inputs → has x.prev ≡ false
    → ((q : OutPoint) → next q ≡ cond (same x.prev q) true (has q)) → IsSeen next (inputs ++ x ∷ [])
seen_more has next inputs x seen absent is = record {
  known = λ prev e.
      elim (cases_Bool (same x.prev prev)) [
        | inl yes-same ↦
            let p : x.prev ≡ prev = same-true x.prev prev yes-same in
            (length (prevs inputs), rw joined (get_last (prevs inputs) x.prev ∙ ap Some p))
        | inr no-same ↦
            let before : has prev ≡ true = (let f = is prev in let g = rw no-same at f in sym g ∙ e) in
            let k = seen.known prev before in
            (k.0, rw joined (get_front (prevs inputs) (x.prev ∷ []) k.0 prev k.1))
      ];
  all = λ prev i e.
      elim (get_push (prevs inputs) x.prev i prev (rw joined at e)) [
        | inl before ↦ is prev ∙ (let f = seen.all prev i before in elim (cases_Bool (same x.prev prev)) [ inl a ↦ rw a refl | inr b ↦ rw b f ])
        | inr last ↦ is prev ∙ (let f : same x.prev prev ≡ true = ap (same x.prev) last.1 ∙ same-refl x.prev in rw f refl)
      ];
  apart = λ h.
      elim (get_push (prevs inputs) x.prev h.2 h.0 (rw joined at h.5)) [
        | inl before ↦
            elim (get_push (prevs inputs) x.prev h.1 h.0 (rw joined at h.4)) [
              | inl first ↦ seen.apart (h.0, h.1, h.2, h.3, first, before)
              | inr last ↦ absurd (omega (arith, h.3, last.0, get_below (prevs inputs) h.2 h.0 before))
            ]
        | inr last ↦
            elim (get_push (prevs inputs) x.prev h.1 h.0 (rw joined at h.4)) [
              | inl first ↦ absurd (false≢true (sym absent ∙ (ap has (sym last.1) ∙ seen.all h.0 h.1 first)))
              | inr both ↦ absurd (omega (arith, h.3, last.0, both.0))
            ]
      ];
} where
  joined : prevs (inputs ++ x ∷ []) ≡ prevs inputs ++ x.prev ∷ []
  joined = map-append (λ (y : TxIn). y.prev) inputs (x ∷ [])

-- an input whose output was there
pub seen_again : (has : OutPoint → Bool) (inputs : List TxIn) (x : TxIn) → IsSeen has inputs → has x.prev ≡ true → SpendsTwice (inputs ++ x ∷ [])
seen_again has inputs x seen there =
    let k = seen.known x.prev there in
    let joined : prevs (inputs ++ x ∷ []) ≡ prevs inputs ++ x.prev ∷ [] = map-append (λ (y : TxIn). y.prev) inputs (x ∷ []) in
    (x.prev, k.0, length (prevs inputs), get_below (prevs inputs) k.0 x.prev k.1, rw joined (get_front (prevs inputs) (x.prev ∷ []) k.0 x.prev k.1), rw joined (get_last (prevs inputs) x.prev))

-- ---- the steps of a loop over the inputs

pub seen_next : (has next : OutPoint → Bool) (inputs : List TxIn) (i : ℕ) (x : TxIn) (added : Bool) → i < length inputs → x ≡ get_or inputs i x → IsSeen has (take i inputs)
    → added ≡ not (has x.prev) → added ≡ true → ((q : OutPoint) → next q ≡ cond (same x.prev q) true (has q)) → IsSeen next (take (i + 1) inputs)
seen_next has next inputs i x added lt is seen new yes-new updates =
    let more : take (i + 1) inputs ≡ take i inputs ++ x ∷ [] = take_more inputs i x lt ∙ ap (λ (y : TxIn). take i inputs ++ y ∷ []) (sym is) in
    let absent : has x.prev ≡ false = not-true (has x.prev) (sym new ∙ yes-new) in
    rw more (seen_more has next (take i inputs) x seen absent updates)

pub seen_repeat : (has : OutPoint → Bool) (inputs : List TxIn) (i : ℕ) (x : TxIn) (added : Bool) → i < length inputs → x ≡ get_or inputs i x → IsSeen has (take i inputs)
    → added ≡ not (has x.prev) → added ≡ false → SpendsTwice inputs
seen_repeat has inputs i x added lt is seen new no-new =
    let more : take (i + 1) inputs ≡ take i inputs ++ x ∷ [] = take_more inputs i x lt ∙ ap (λ (y : TxIn). take i inputs ++ y ∷ []) (sym is) in
    let there : has x.prev ≡ true = not-false (has x.prev) (sym new ∙ no-new) in
    let twice : SpendsTwice (take (i + 1) inputs) = rw more (seen_again has (take i inputs) x seen there) in
    subst SpendsTwice (take-append-drop (i + 1) inputs) (spends_twice_more (take (i + 1) inputs) (drop (i + 1) inputs) twice)
