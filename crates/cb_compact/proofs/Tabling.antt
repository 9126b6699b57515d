-- The table of ids, and what pairs bring into it.
use Rattle.std.proofs.Common.{◌≡◌, ◌≤◌, ℕ, zero, suc, Bool, true, false, ◌||◌, ◌==◌, ◌⊎◌, inl, inr, T, nat_eq, List, [], ◌∷◌, ◌++◌, length, map, set, slice_get, Option, Some, None, is_some, cond, refl, sym, ap, ◌∙◌, subst, arith, append-nil}
use Rattle.std.proofs.Math.Facts.{eqb_yes}
use Rattle.std.proofs.lemmas.Bool.{eq-eqb, false≢true}
use Rattle.std.proofs.lemmas.List.{map-append}
use Rattle.std.proofs.lemmas.List.Elements.{filter-append}
use Rattle.std.proofs.lemmas.List.Folds.{list_any-append}
use Rattle.std.specs.Map.{lookup}
use Rattle.cb_block.specs.declared.tx.Tx.{Tx}
use Rattle.cb_compact.specs.Slots.{AreDifferent, choice, is_among, only_tx, with_id}
use Rattle.cb_compact.specs.Tables.{ArePlaces, IsPlace, IsTable, all_found, found_of, found_tx, more_at, one_more, with_pair}
use Rattle.cb_compact.specs.declared.named_tx.Pair.{Pair}
use Rattle.cb_compact.specs.declared.table.Found.{Found}
use Rattle.cb_compact.specs.declared.table.Found.TheVariants.{Nobody}
use Rattle.cb_compact.specs.declared.table.Table.{Table}

-- Numbers that are told equal are so.
pub eqb_is : (x y : ℕ) → (x == y) ≡ true → x ≡ y
eqb_is x y e = eqb_yes (subst T (sym e) tt)

-- What was found is there as what is chosen.
chosen : (pairs : List Pair) → found_tx (found_of pairs) ≡ only_tx pairs
chosen [] = refl
chosen (pair ∷ []) = refl
chosen (pair ∷ other ∷ others) = refl

pub each_chosen : (pairs : List Pair) (ids : List ℕ) → map found_tx (all_found ids pairs) ≡ map (choice pairs) ids
each_chosen pairs [] = refl
each_chosen pairs (id ∷ ids) =
    ap (λ it. it ∷ map found_tx (all_found ids pairs)) (chosen (with_id id pairs)) ∙ ap (λ list. choice pairs id ∷ list) (each_chosen pairs ids)

or_right : (a b : Bool) → b ≡ true → (a || b) ≡ true
or_right true b is = refl
or_right false b is = is

or_left : (a b : Bool) → a ≡ true → (a || b) ≡ true
or_left a b is = ap (λ it. it || b) is

-- ---- an id more, for which nobody is found
same_either : (x y : ℕ) → (x == y) ≡ false → (y == x) ≡ false
same_either x y apart = go (y == x) refl where
  go : (b : Bool) → (y == x) ≡ b → b ≡ false
  go false e = refl
  go true e = absurd (false≢true (sym apart ∙ eq-eqb x y (sym (eqb_is y x e))))

first_false : (a b : Bool) → (a || b) ≡ false → a ≡ false
first_false false b e = refl
first_false true b e = e

second_false : (a b : Bool) → (a || b) ≡ false → b ≡ false
second_false false b e = e
second_false true b e = absurd (false≢true (sym e))

pub different_more : (ids : List ℕ) (id : ℕ) → AreDifferent ids → is_among id ids ≡ false → AreDifferent (ids ++ id ∷ [])
different_more [] id different apart = (refl, tt)
different_more (x ∷ ids) id (alone, different) apart = (
  list_any-append (λ other. other == x) ids (id ∷ []) ∙ ap (λ it. it || ((id == x) || false)) alone
      ∙ ap (λ it. it || false) (same_either x id (first_false (x == id) (is_among id ids) apart)),
  different_more ids id different (second_false (x == id) (is_among id ids) apart),
)

repeated_later : (x id : ℕ) (before behind : List ℕ) → (x == id) ≡ true → is_among x (before ++ id ∷ behind) ≡ true
repeated_later x id before behind e =
    let same : (id == x) ≡ true = eq-eqb id x (sym (eqb_is x id e)) in
    list_any-append (λ other. other == x) before (id ∷ behind) ∙ or_right (is_among x before) ((id == x) || is_among x behind) (or_left (id == x) (is_among x behind) same)

-- The first of some is an id, or a later one is.
first_or_later : (first later : Bool) → (first || later) ≡ true → (first ≡ true) ⊎ (later ≡ true)
first_or_later true later e = inl refl
first_or_later false later e = inr e

pub repeated : (before : List ℕ) (id : ℕ) (behind : List ℕ) → is_among id before ≡ true → ¬ AreDifferent (before ++ id ∷ behind)
repeated [] id behind among different = false≢true among
repeated (x ∷ before) id behind among (alone, different) =
    elim (first_or_later (x == id) (is_among id before) among) [
      | inl e ↦ false≢true (sym alone ∙ repeated_later x id before behind e)
      | inr e ↦ repeated before id behind e different
    ]

-- What stands at a place is among them, and where no place is told, it isn't.
pub among_at : (ids : List ℕ) (k id : ℕ) → slice_get ids k ≡ Some id → is_among id ids ≡ true
among_at [] k id is = absurd cc
among_at (x ∷ ids) zero id is = let same : x ≡ id = (let one : Some x ≡ Some id = is in cc) in or_left (x == id) (is_among id ids) (eq-eqb x id same)
among_at (x ∷ ids) (suc k) id is = or_right (x == id) (is_among id ids) (among_at ids k id is)

pub is_there : (ids : List ℕ) (id : ℕ) (place : Option ℕ) → IsPlace ids id place → is_some place ≡ true → is_among id ids ≡ true
is_there ids id None is some = absurd (false≢true some)
is_there ids id (Some k) is some = among_at ids k id is

pub isnt_there : (ids : List ℕ) (id : ℕ) (place : Option ℕ) → IsPlace ids id place → is_some place ≡ false → is_among id ids ≡ false
isnt_there ids id None is none = is
isnt_there ids id (Some k) is none = absurd (false≢true (sym none))

get_last : (ids : List ℕ) (id : ℕ) → slice_get (ids ++ id ∷ []) (length ids) ≡ Some id
get_last [] id = refl
get_last (x ∷ ids) id = get_last ids id

get_before : (ids more : List ℕ) (k id : ℕ) → slice_get ids k ≡ Some id → slice_get (ids ++ more) k ≡ Some id
get_before [] more k id is = absurd cc
get_before (x ∷ ids) more zero id is = is
get_before (x ∷ ids) more (suc k) id is = get_before ids more k id is

pub places_more : (ids : List ℕ) (id k : ℕ) (old new : List (ℕ × ℕ)) → k ≡ length ids → ((other : ℕ) → lookup (nat_eq other) new ≡ cond (nat_eq id other) (Some k) (lookup (nat_eq other) old)) → ArePlaces ids old → ArePlaces (ids ++ id ∷ []) new
places_more ids id k old new last updates there other =
    subst (IsPlace (ids ++ id ∷ []) other) (sym (updates other)) (go (id == other) refl (lookup (nat_eq other) old) (there other)) where
      go : (b : Bool) → (id == other) ≡ b → (place : Option ℕ) → IsPlace ids other place → IsPlace (ids ++ id ∷ []) other (cond b (Some k) place)
      go true e place is = ap (slice_get (ids ++ id ∷ [])) last ∙ get_last ids id ∙ ap (λ it. Some it) (eqb_is id other e)
      go false e None is = list_any-append (λ it. it == other) ids (id ∷ []) ∙ ap (λ it. it || ((id == other) || false)) is ∙ ap (λ it. it || false) e
      go false e (Some place) is = get_before ids (id ∷ []) place other is

pub found_more : (ids : List ℕ) (id : ℕ) (list : List Found) → list ≡ all_found ids [] → list ++ Nobody ∷ [] ≡ all_found (ids ++ id ∷ []) []
found_more ids id list is = ap (λ them. them ++ Nobody ∷ []) is ∙ sym (map-append (λ id. found_of (with_id id [])) ids (id ∷ []))

-- ---- a pair more

one_found : (pairs : List Pair) (pair : Pair) → found_of (pairs ++ pair ∷ []) ≡ one_more (found_of pairs) pair.tx
one_found [] pair = refl
one_found (first ∷ []) pair = refl
one_found (first ∷ second ∷ others) pair = refl

-- It counts for its own id alone.
with_more : (id : ℕ) (pairs : List Pair) (pair : Pair) → found_of (with_id id (pairs ++ pair ∷ [])) ≡ cond (pair.id == id) (one_more (found_of (with_id id pairs)) pair.tx) (found_of (with_id id pairs))
with_more id pairs pair =
    ap found_of (filter-append (λ it. it.id == id) pairs (pair ∷ [])) ∙ go (pair.id == id) refl where
      go : (b : Bool) → (pair.id == id) ≡ b → found_of (with_id id pairs ++ with_id id (pair ∷ [])) ≡ cond b (one_more (found_of (with_id id pairs)) pair.tx) (found_of (with_id id pairs))
      go true e = ap (λ it. found_of (with_id id pairs ++ cond it (pair ∷ []) [])) e ∙ one_found (with_id id pairs) pair
      go false e = ap (λ it. found_of (with_id id pairs ++ cond it (pair ∷ []) [])) e ∙ ap found_of (append-nil (with_id id pairs))

of_its_id : (id : ℕ) (pairs : List Pair) (pair : Pair) (b : Bool) → (pair.id == id) ≡ b → cond b (one_more (found_of (with_id id pairs)) pair.tx) (found_of (with_id id pairs)) ≡ found_of (with_id id (pairs ++ pair ∷ []))
of_its_id id pairs pair b e = sym (with_more id pairs pair ∙ ap (λ it. cond it (one_more (found_of (with_id id pairs)) pair.tx) (found_of (with_id id pairs))) e)

apart_found : (ids : List ℕ) (pairs : List Pair) (pair : Pair) → is_among pair.id ids ≡ false → all_found ids pairs ≡ all_found ids (pairs ++ pair ∷ [])
apart_found [] pairs pair apart = refl
apart_found (x ∷ ids) pairs pair apart =
    let other = same_either x pair.id (first_false (x == pair.id) (is_among pair.id ids) apart) in
    ap (λ it. it ∷ all_found ids pairs) (of_its_id x pairs pair false other)
    ∙ ap (λ list. found_of (with_id x (pairs ++ pair ∷ [])) ∷ list) (apart_found ids pairs pair (second_false (x == pair.id) (is_among pair.id ids) apart))

-- One that is among others differs from one that isn't.
other_than : (ids : List ℕ) (x id : ℕ) → is_among x ids ≡ false → is_among id ids ≡ true → (id == x) ≡ false
other_than ids x id outside among = go (id == x) refl where
  go : (b : Bool) → (id == x) ≡ b → b ≡ false
  go false e = refl
  go true e = absurd (false≢true (sym outside ∙ ap (λ it. is_among it ids) (sym (eqb_is id x e)) ∙ among))

pair_found : (ids : List ℕ) (pairs : List Pair) (pair : Pair) (k : ℕ) → AreDifferent ids → slice_get ids k ≡ Some pair.id → more_at k pair.tx (all_found ids pairs) ≡ all_found ids (pairs ++ pair ∷ [])
pair_found [] pairs pair k different is = absurd cc
pair_found (x ∷ ids) pairs pair zero (alone, different) is =
    let same : x ≡ pair.id = (let one : Some x ≡ Some pair.id = is in cc) in
    ap (λ it. it ∷ all_found ids pairs) (of_its_id x pairs pair true (eq-eqb pair.id x (sym same)))
    ∙ ap (λ list. found_of (with_id x (pairs ++ pair ∷ [])) ∷ list) (apart_found ids pairs pair (ap (λ it. is_among it ids) (sym same) ∙ alone))
pair_found (x ∷ ids) pairs pair (suc k) (alone, different) is =
    let other = other_than ids x pair.id alone (among_at ids k pair.id is) in
    ap (λ it. it ∷ more_at k pair.tx (all_found ids pairs)) (of_its_id x pairs pair false other)
    ∙ ap (λ list. found_of (with_id x (pairs ++ pair ∷ [])) ∷ list) (pair_found ids pairs pair k different is)

at_its_place : (ids : List ℕ) (pairs : List Pair) (pair : Pair) (list : List Found) (place : Option ℕ) → AreDifferent ids → list ≡ all_found ids pairs → IsPlace ids pair.id place → with_pair place pair.tx list ≡ all_found ids (pairs ++ pair ∷ [])
at_its_place ids pairs pair list None different are is = are ∙ apart_found ids pairs pair is
at_its_place ids pairs pair list (Some k) different are is = ap (more_at k pair.tx) are ∙ pair_found ids pairs pair k different is

pub pair_more : (ids : List ℕ) (pairs : List Pair) (pair : Pair) (old new : Table) → AreDifferent ids → IsTable ids pairs old → new.places.entries ≡ old.places.entries
    → new.found.items ≡ with_pair (lookup (nat_eq pair.id) old.places.entries) pair.tx old.found.items → IsTable ids (pairs ++ pair ∷ []) new
pair_more ids pairs pair old new different table same is = record {
  places = subst (ArePlaces ids) (sym same) table.places;
  found = is ∙ at_its_place ids pairs pair old.found.items (lookup (nat_eq pair.id) old.places.entries) different table.found (table.places pair.id);
}

-- ---- what stands at a place

pub more_set : (list : List Found) (k : ℕ) (tx : Tx) (found : Found) → slice_get list k ≡ Some found → more_at k tx list ≡ set list k (one_more found tx)
more_set [] k tx found is = absurd (let never : None ≡ Some found = is in cc)
more_set (it ∷ list) zero tx found is = let same : it ≡ found = (let one : Some it ≡ Some found = is in cc) in ap (λ it. one_more it tx ∷ list) same
more_set (it ∷ list) (suc k) tx found is = ap (λ others. it ∷ others) (more_set list k tx found is)

pub more_past : (list : List Found) (k : ℕ) (tx : Tx) → length list ≤ k → more_at k tx list ≡ list
more_past [] k tx past = refl
more_past (it ∷ list) zero tx past = absurd (omega (arith, past))
more_past (it ∷ list) (suc k) tx past = ap (λ others. it ∷ others) (more_past list k tx (omega (arith, past)))
