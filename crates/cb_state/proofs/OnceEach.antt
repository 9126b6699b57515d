-- Entries of which each different one counts once.
use Rattle.std.proofs.Common.{◌≡◌, ℕ, ◌+◌, ◌<◌, ◌≤◌, get_or, take, drop, Bool, true, false, cond, ◌&&◌, ◌||◌, not, eqb, List, [], ◌∷◌, ◌++◌, length, Option, Some, None, refl, sym, ap, ◌∙◌, append_assoc, arith, inl, inr}
use Rattle.std.specs.Prelude.{filter}
use Rattle.std.specs.List.{list_any}
use Rattle.std.proofs.lemmas.Bool.{cases_Bool, eqb-true, false≢true}
use Rattle.std.proofs.lemmas.List.{append-nil, length-append, take-append-drop, take_more}
use Rattle.std.proofs.lemmas.List.Elements.{filter-append}
use Rattle.cb_base.specs.declared.hash.Hash256.{Hash256}
use Rattle.cb_chain.specs.Entries.{same}
use Rattle.cb_chain.proofs.BlockIndexes.{same-true}
use Rattle.cb_wire.specs.declared.inventory.Inventory.{Inventory}
use Rattle.cb_wire.specs.declared.inventory.Inventory.TheVariants.{Tx, Block, CompactBlock, Other}
use Rattle.cb_state.specs.State.{RelayState}
use Rattle.cb_state.specs.Wanting.{is_listed, is_wanted, once, same_entry, wanted_of, with_entry, with_wanted}

abbrev pub blocks_in : Option Hash256 → List Inventory
blocks_in None = []
blocks_in (Some hash) = Block hash ∷ []

and_parts : (a b : Bool) → (a && b) ≡ true → (a ≡ true) × (b ≡ true)
and_parts true b e = (refl, e)
and_parts false b e = absurd (false≢true e)

-- entries that are told to be alike are one
entry-true : (a b : Inventory) → same_entry a b ≡ true → a ≡ b
entry-true (Tx a) (Tx b) e = ap Tx (same-true a b e)
entry-true (Tx a) (Block b) e = absurd (false≢true e)
entry-true (Tx a) (CompactBlock b) e = absurd (false≢true e)
entry-true (Tx a) (Other k b) e = absurd (false≢true e)
entry-true (Block a) (Tx b) e = absurd (false≢true e)
entry-true (Block a) (Block b) e = ap Block (same-true a b e)
entry-true (Block a) (CompactBlock b) e = absurd (false≢true e)
entry-true (Block a) (Other k b) e = absurd (false≢true e)
entry-true (CompactBlock a) (Tx b) e = absurd (false≢true e)
entry-true (CompactBlock a) (Block b) e = absurd (false≢true e)
entry-true (CompactBlock a) (CompactBlock b) e = ap CompactBlock (same-true a b e)
entry-true (CompactBlock a) (Other k b) e = absurd (false≢true e)
entry-true (Other j a) (Tx b) e = absurd (false≢true e)
entry-true (Other j a) (Block b) e = absurd (false≢true e)
entry-true (Other j a) (CompactBlock b) e = absurd (false≢true e)
entry-true (Other j a) (Other k b) e =
    let parts = and_parts (eqb j k) (same a b) e in
    ap (λ (n : ℕ). Other n a) (eqb-true j k parts.0) ∙ ap (Other k) (same-true a b parts.1)

-- what is left out for its likeness to one doesn't hide another
listed_apart : (x e : Inventory) (ys : List Inventory) → same_entry x e ≡ false → is_listed (filter (λ other. not (same_entry x other)) ys) e ≡ is_listed ys e
listed_apart x e [] apart = refl
listed_apart x e (y ∷ ys) apart =
    elim (cases_Bool (same_entry x y)) [
      | inl is ↦
          let one : same_entry y e ≡ false = ap (λ (i : Inventory). same_entry i e) (sym (entry-true x y is)) ∙ apart in
          rw (is, one) (listed_apart x e ys apart)
      | inr isnt ↦ rw isnt (ap (λ b. same_entry y e || b) (listed_apart x e ys apart))
    ]

-- nor what isn't wanted
listed_wanted : (wants : Inventory → Bool) (e : Inventory) (ys : List Inventory) → wants e ≡ true → is_listed (filter wants ys) e ≡ is_listed ys e
listed_wanted wants e [] is = refl
listed_wanted wants e (y ∷ ys) is =
    elim (cases_Bool (wants y)) [
      | inl y_is ↦ rw y_is (ap (λ b. same_entry y e || b) (listed_wanted wants e ys is))
      | inr y_isnt ↦
          elim (cases_Bool (same_entry y e)) [
            | inl one ↦ absurd (false≢true (sym y_isnt ∙ ap wants (entry-true y e one) ∙ is))
            | inr other ↦ rw (y_isnt, other) (listed_wanted wants e ys is)
          ]
    ]

filter_in : (wants : Inventory → Bool) (ys : List Inventory) (e : Inventory) → wants e ≡ true → filter wants (ys ++ e ∷ []) ≡ filter wants ys ++ e ∷ []
filter_in wants ys e is = filter-append wants ys (e ∷ []) ∙ ap (λ b. filter wants ys ++ cond b (e ∷ []) []) is

filter_out : (wants : Inventory → Bool) (ys : List Inventory) (e : Inventory) → wants e ≡ false → filter wants (ys ++ e ∷ []) ≡ filter wants ys
filter_out wants ys e isnt = filter-append wants ys (e ∷ []) ∙ ap (λ b. filter wants ys ++ cond b (e ∷ []) []) isnt ∙ append-nil (filter wants ys)

-- one more of a list, or none more, under a filter that leaves it out
filter_skip : (wants : Inventory → Bool) (ys : List Inventory) (e : Inventory) (b : Bool) → wants e ≡ false → filter wants (cond b ys (ys ++ e ∷ [])) ≡ filter wants ys
filter_skip wants ys e true isnt = refl
filter_skip wants ys e false isnt = filter_out wants ys e isnt

filter_more : (wants : Inventory → Bool) (ys : List Inventory) (e : Inventory) (b : Bool) → wants e ≡ true → filter wants (cond b ys (ys ++ e ∷ [])) ≡ cond b (filter wants ys) (filter wants ys ++ e ∷ [])
filter_more wants ys e true is = refl
filter_more wants ys e false is = filter_in wants ys e is

cons_cond : (x e : Inventory) (ys : List Inventory) (b : Bool) → x ∷ cond b ys (ys ++ e ∷ []) ≡ cond b (x ∷ ys) (x ∷ ys ++ e ∷ [])
cons_cond x e ys true = refl
cons_cond x e ys false = refl

not_of : (b : Bool) (c : Bool) → b ≡ c → not b ≡ not c
not_of b c e = ap not e

-- one entry more: it is new, or stands there
pub once_more : (xs : List Inventory) (e : Inventory) → once (xs ++ e ∷ []) ≡ with_entry (once xs) e
unfolding once
once_more [] e = refl
once_more (x ∷ xs) e =
    let apart = λ (other : Inventory). not (same_entry x other) in
    let step : x ∷ filter apart (once (xs ++ e ∷ [])) ≡ x ∷ filter apart (cond (is_listed (once xs) e) (once xs) (once xs ++ e ∷ [])) =
    ap (λ (l : List Inventory). x ∷ filter apart l) (once_more xs e) in
    elim (cases_Bool (same_entry x e)) [
      | inl is ↦
          let out : not (same_entry x e) ≡ false = ap not is in
          step ∙ ap (λ (l : List Inventory). x ∷ l) (filter_skip apart (once xs) e (is_listed (once xs) e) out)
          ∙ ap (λ b. cond (b || is_listed (filter apart (once xs)) e) (x ∷ filter apart (once xs)) (x ∷ filter apart (once xs) ++ e ∷ [])) (sym is)
      | inr isnt ↦
          let stays : not (same_entry x e) ≡ true = ap not isnt in
          let listed : (same_entry x e || is_listed (filter apart (once xs)) e) ≡ is_listed (once xs) e =
          ap (λ b. b || is_listed (filter apart (once xs)) e) isnt ∙ listed_apart x e (once xs) isnt in
          step ∙ ap (λ (l : List Inventory). x ∷ l) (filter_more apart (once xs) e (is_listed (once xs) e) stays)
          ∙ cons_cond x e (filter apart (once xs)) (is_listed (once xs) e)
          ∙ ap (λ b. cond b (x ∷ filter apart (once xs)) (x ∷ filter apart (once xs) ++ e ∷ [])) (sym listed)
    ]

-- one entry more among those that are wanted
pub wanted_more : (state : RelayState) (xs : List Inventory) (e : Inventory) → with_wanted state (wanted_of state xs) e ≡ wanted_of state (xs ++ e ∷ [])
wanted_more state xs e =
    let wants = is_wanted state in
    let grown : filter wants (once (xs ++ e ∷ [])) ≡ filter wants (cond (is_listed (once xs) e) (once xs) (once xs ++ e ∷ [])) = ap (filter wants) (once_more xs e) in
    elim (cases_Bool (wants e)) [
      | inl is ↦
          ap (λ b. cond b (with_entry (filter wants (once xs)) e) (filter wants (once xs))) is
          ∙ ap (λ b. cond b (filter wants (once xs)) (filter wants (once xs) ++ e ∷ [])) (listed_wanted wants e (once xs) is)
          ∙ sym (grown ∙ filter_more wants (once xs) e (is_listed (once xs) e) is)
      | inr isnt ↦
          ap (λ b. cond b (with_entry (filter wants (once xs)) e) (filter wants (once xs))) isnt
          ∙ sym (grown ∙ filter_skip wants (once xs) e (is_listed (once xs) e) isnt)
    ]

with_long : (b : Bool) (listed : List Inventory) (e : Inventory) → length (cond b listed (listed ++ e ∷ [])) ≤ length listed + 1
with_long true listed e = omega arith
with_long false listed e = omega (arith, length-append listed (e ∷ []))

pub wanted_long : (state : RelayState) (listed : List Inventory) (e : Inventory) → length (with_wanted state listed e) ≤ length listed + 1
wanted_long state listed e =
    elim (cases_Bool (is_wanted state e)) [
      | inl is ↦ rw is (with_long (is_listed listed e) listed e)
      | inr isnt ↦ rw isnt (omega arith)
    ]

-- ---- nothing is wanted

some_left : (b : Bool) (x e : Inventory) (xs : List Inventory) → cond b (x ∷ xs) (x ∷ xs ++ e ∷ []) ≡ [] → ⊥
some_left true x e xs none = let is : x ∷ xs ≡ [] = none in cc
some_left false x e xs none = let is : x ∷ (xs ++ e ∷ []) ≡ [] = none in cc

with_some : (listed : List Inventory) (e : Inventory) → with_entry listed e ≡ [] → ⊥
with_some [] e none = let is : e ∷ [] ≡ [] = none in cc
with_some (x ∷ xs) e none = some_left (is_listed (x ∷ xs) e) x e xs none

none_left : (b : Bool) (listed : List Inventory) (e : Inventory) → cond b (with_entry listed e) listed ≡ [] → (listed ≡ []) × (b ≡ false)
none_left true listed e none = absurd (with_some listed e none)
none_left false listed e none = (none, refl)

none_before : (state : RelayState) (xs ys : List Inventory) → wanted_of state (xs ++ ys) ≡ [] → wanted_of state xs ≡ []
none_before state xs [] none = ap (wanted_of state) (sym (append-nil xs)) ∙ none
none_before state xs (e ∷ ys) none =
    let one : wanted_of state (xs ++ e ∷ []) ≡ [] = none_before state (xs ++ e ∷ []) ys (ap (wanted_of state) (append_assoc xs (e ∷ []) ys) ∙ none) in
    (none_left (is_wanted state e) (wanted_of state xs) e (wanted_more state xs e ∙ one)).0

-- each of them isn't
pub unwanted_at : (state : RelayState) (entries : List Inventory) (i : ℕ) (d : Inventory) → i < length entries → wanted_of state entries ≡ [] → is_wanted state (get_or entries i d) ≡ false
unwanted_at state entries i d lt none =
    let e = get_or entries i d in
    let all : wanted_of state (take (i + 1) entries ++ drop (i + 1) entries) ≡ [] = ap (wanted_of state) (take-append-drop (i + 1) entries) ∙ none in
    let front : wanted_of state (take (i + 1) entries) ≡ [] = none_before state (take (i + 1) entries) (drop (i + 1) entries) all in
    let more : wanted_of state (take i entries ++ e ∷ []) ≡ [] = ap (wanted_of state) (sym (take_more entries i d lt)) ∙ front in
    (none_left (is_wanted state e) (wanted_of state (take i entries)) e (wanted_more state (take i entries) e ∙ more)).1

pub none_noted : (keys : List Hash256) (listed : List Inventory) (hash : Hash256) (e : Inventory) → keys ≡ [] → listed ≡ [] → list_any (same hash) keys ≡ is_listed listed e
none_noted keys listed hash e none empty = ap (list_any (same hash)) none ∙ sym (ap (λ (l : List Inventory). is_listed l e) empty)

-- ---- a turn of the loop

pub listed_more : (state : RelayState) (entries : List Inventory) (i : ℕ) (d : Inventory) (old new : List Inventory) → i < length entries → old ≡ wanted_of state (take i entries) → new ≡ with_wanted state old (get_or entries i d)
    → new ≡ wanted_of state (take (i + 1) entries)
listed_more state entries i d old new lt is step =
    step ∙ ap (λ (l : List Inventory). with_wanted state l (get_or entries i d)) is
    ∙ wanted_more state (take i entries) (get_or entries i d)
    ∙ ap (wanted_of state) (sym (take_more entries i d lt))

pub few_more : (state : RelayState) (old new : List Inventory) (e : Inventory) (i : ℕ) → length old ≤ i → new ≡ with_wanted state old e → length new ≤ i + 1
few_more state old new e i few step =
    let long : length new ≡ length (with_wanted state old e) = ap (λ (l : List Inventory). length l) step in
    omega (arith, long, wanted_long state old e)
