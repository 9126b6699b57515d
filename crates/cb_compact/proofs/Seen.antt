-- What stands at each place of a list that is laid out: its own element at those of some places, and at all others what is known
-- of the element there.
use Rattle.std.proofs.Common.{◌≡◌, ◌≢◌, ℕ, zero, suc, ◌+◌, ◌-◌, ◌<◌, ◌≤◌, ◌⊎◌, ◌==◌, ◌||◌, inl, inr, Bool, true, false, if◌then◌else◌, List, [], ◌∷◌, ◌++◌, length, take, drop, map, All, Contains, Option, Some, None, slice_get, refl, sym, ap, ◌∙◌, subst, arith}
use Rattle.std.proofs.lemmas.Bool.{cases_lt, eq-eqb, false≢true}
use Rattle.std.proofs.lemmas.List.{drop-map, map-append, take-map}
use Rattle.std.proofs.lemmas.List.Elements.{All-cons, All-head, All-nil, All-tail}
use Rattle.cb_block.specs.declared.tx.Tx.{Tx}
use Rattle.cb_compact.specs.Differences.{Rise}
use Rattle.cb_compact.specs.Forms.{left_out, places_of}
use Rattle.cb_compact.specs.Slots.{is_among, laid_out, missing}
use Rattle.cb_compact.specs.declared.form.Prefilled.{Prefilled}
use Rattle.cb_compact.proofs.Indexes.{left_at, left_kept}
use Rattle.cb_compact.proofs.Slotting.{laid_at, laid_kept}
use Rattle.cb_compact.proofs.Tabling.{eqb_is}

-- ---- what a number is among

pub not_equal : (x y : ℕ) → x ≢ y → (x == y) ≡ false
not_equal x y other = go (x == y) refl where
  go : (b : Bool) → (x == y) ≡ b → b ≡ false
  go false e = refl
  go true e = absurd (other (eqb_is x y e))

pub unequal_from : (x y : ℕ) → (x == y) ≡ false → x ≢ y
unequal_from x y e same = false≢true (sym e ∙ eq-eqb x y same)

pub contains_first : (x : ℕ) (xs : List ℕ) → Contains (x ∷ xs) x
contains_first x xs = (0, omega arith, refl)

pub contains_later : (x y : ℕ) (xs : List ℕ) → Contains xs y → Contains (x ∷ xs) y
contains_later x y xs (k, within, is) = (suc k, omega (arith, within), is)

pub contains_cases : (x y : ℕ) (xs : List ℕ) → Contains (x ∷ xs) y → (x ≡ y) ⊎ Contains xs y
contains_cases x y xs (zero, within, is) = inl is
contains_cases x y xs (suc k, within, is) = inr (k, omega (arith, within), is)

pub contains_none : (x : ℕ) → ¬ Contains [] x
contains_none x (k, within, is) = absurd (omega (arith, within))

pub is_contained : (x : ℕ) (xs : List ℕ) → is_among x xs ≡ true → Contains xs x
is_contained x [] e = absurd (false≢true e)
is_contained x (y ∷ ys) e = go (y == x) refl e (is_contained x ys) where
  go : (b : Bool) → (y == x) ≡ b → (b || is_among x ys) ≡ true → (is_among x ys ≡ true → Contains ys x) → Contains (y ∷ ys) x
  go true is f later = subst (Contains (y ∷ ys)) (eqb_is y x is) (contains_first y ys)
  go false is f later = contains_later y x ys (later f)

pub not_among : (x : ℕ) (xs : List ℕ) → ¬ Contains xs x → is_among x xs ≡ false
not_among x xs none = go (is_among x xs) refl where
  go : (b : Bool) → is_among x xs ≡ b → b ≡ false
  go false e = refl
  go true e = absurd (none (is_contained x xs e))

pub not_contained : (x : ℕ) (xs : List ℕ) → is_among x xs ≡ false → ¬ Contains xs x
not_contained x [] e here = contains_none x here
not_contained x (y ∷ ys) e here = go (y == x) refl e (not_contained x ys) where
  go : (b : Bool) → (y == x) ≡ b → (b || is_among x ys) ≡ false → (is_among x ys ≡ false → ¬ Contains ys x) → ⊥
  go true is f later = absurd (false≢true (sym f))
  go false is f later = elim (contains_cases y x ys here) [
    | inl same ↦ unequal_from y x is same
    | inr there ↦ later f there
  ]

-- ---- places that rise

pub rise_lower : (low least total : ℕ) (places : List ℕ) → low ≤ least → Rise least total places → Rise low total places
rise_lower low least total [] less rises = tt
rise_lower low least total (place ∷ places) less (from, below, rest) = (omega (arith, less, from), below, rest)

pub below_rise : (i least total : ℕ) (places : List ℕ) → i < least → Rise least total places → is_among i places ≡ false
below_rise i least total [] less rises = refl
below_rise i least total (place ∷ places) less (from, below, rest) =
    ap (λ it. it || is_among i places) (not_equal place i (omega (arith, less, from))) ∙ below_rise i (place + 1) total places (omega (arith, less, from)) rest

pub missing_rise : (first total : ℕ) (list : List (Option Tx)) → total ≡ first + length list → Rise first total (missing first list)
missing_rise first total [] all = tt
missing_rise first total (None ∷ list) all = (omega arith, omega (arith, all), missing_rise (first + 1) total list (omega (arith, all)))
missing_rise first total (Some tx ∷ list) all = rise_lower first (first + 1) total (missing (first + 1) list) (omega arith) (missing_rise (first + 1) total list (omega (arith, all)))

-- ---- what stands at each place

pub left_map : {A B : Type 0} (f : A → B) (first : ℕ) (places : List ℕ) (xs : List A) → left_out first places (map f xs) ≡ map f (left_out first places xs)
left_map f first [] xs = refl
left_map f first (place ∷ places) xs =
    let rest = left_out (place + 1) places (drop (place - first + 1) xs) in
    ap (λ list. list ++ left_out (place + 1) places (drop (place - first + 1) (map f xs))) (take-map f (place - first) xs)
    ∙ ap (λ list. map f (take (place - first) xs) ++ left_out (place + 1) places list) (drop-map f (place - first + 1) xs)
    ∙ ap (λ list. map f (take (place - first) xs) ++ list) (left_map f (place + 1) places (drop (place - first + 1) xs))
    ∙ sym (map-append f (take (place - first) xs) rest)

-- at each of the places the transaction there, and at all others what is known of it
abbrev pub seen : (Tx → Option Tx) → ℕ → List ℕ → List Tx → List (Option Tx)
seen known first places [] = []
seen known first places (tx ∷ txs) = (if is_among first places then Some tx else known tx) ∷ seen known (first + 1) places txs

pub seen_past : (known : Tx → Option Tx) (first place : ℕ) (places : List ℕ) (txs : List Tx) → place < first → seen known first (place ∷ places) txs ≡ seen known first places txs
seen_past known first place places [] past = refl
seen_past known first place places (tx ∷ txs) past =
    ap (λ it. (if (it || is_among first places) then Some tx else known tx) ∷ seen known (first + 1) (place ∷ places) txs) (not_equal place first (omega (arith, past)))
    ∙ ap (λ list. (if is_among first places then Some tx else known tx) ∷ list) (seen_past known (first + 1) place places txs (omega (arith, past)))

pub length_seen : (known : Tx → Option Tx) (first : ℕ) (places : List ℕ) (txs : List Tx) → length (seen known first places txs) ≡ length txs
length_seen known first places [] = refl
length_seen known first places (tx ∷ txs) = ap (λ n. suc n) (length_seen known (first + 1) places txs)

-- The whole transactions are those of a list whose first place is `first`.
abbrev pub AreAt : ℕ → List Tx → List Prefilled → Type 0
AreAt first txs prefilled = All (λ given. slice_get txs (given.place - first) ≡ Some given.tx) prefilled

pub at_next : (first least total : ℕ) (prefilled : List Prefilled) (tx : Tx) (txs : List Tx) → first < least → Rise least total (places_of prefilled) → AreAt first (tx ∷ txs) prefilled → AreAt (first + 1) txs prefilled
at_next first least total [] tx txs less rises are = All-nil (λ given. slice_get txs (given.place - (first + 1)) ≡ Some given.tx)
at_next first least total (given ∷ more) tx txs less (low, below, rest) are =
    let here = All-head (λ given. slice_get (tx ∷ txs) (given.place - first) ≡ Some given.tx) given more are in
    let others = All-tail (λ given. slice_get (tx ∷ txs) (given.place - first) ≡ Some given.tx) given more are in
    let next : given.place - first ≡ suc (given.place - (first + 1)) = omega (arith, less, low) in
    All-cons (λ given. slice_get txs (given.place - (first + 1)) ≡ Some given.tx) given more
    (sym (ap (slice_get (tx ∷ txs)) next) ∙ here)
    (at_next first (given.place + 1) total more tx txs (omega (arith, less, low)) rest others)

pub some_is : (x y : Tx) → Some x ≡ Some y → x ≡ y
some_is x y e = cc

pub laid_seen : (known : Tx → Option Tx) (first total : ℕ) (prefilled : List Prefilled) (txs : List Tx) → total ≡ first + length txs → Rise first total (places_of prefilled) → AreAt first txs prefilled
    → laid_out first prefilled (map known (left_out first (places_of prefilled) txs)) ≡ seen known first (places_of prefilled) txs
laid_seen known first total [] [] all rises are = refl
laid_seen known first total (given ∷ more) [] all (low, below, rest) are = absurd (omega (arith, all, low, below))
laid_seen known first total [] (tx ∷ txs) all rises are =
    ap (λ list. known tx ∷ list) (laid_seen known (first + 1) total [] txs (omega (arith, all)) tt (All-nil (λ given. slice_get txs (given.place - (first + 1)) ≡ Some given.tx)))
laid_seen known first total (given ∷ more) (tx ∷ txs) all (low, below, rest) are =
    elim (cases_lt first given.place) [
      | inl less ↦ let here : Rise (first + 1) total (places_of (given ∷ more)) = (omega (arith, less), below, rest) in
          let others = map known (left_out (first + 1) (places_of (given ∷ more)) txs) in
          ap (λ list. laid_out first (given ∷ more) (map known list)) (left_kept first total (places_of (given ∷ more)) tx txs here)
          ∙ laid_kept first total (given ∷ more) (known tx) others here
          ∙ ap (λ list. known tx ∷ list) (laid_seen known (first + 1) total (given ∷ more) txs (omega (arith, all)) here (at_next first (first + 1) total (given ∷ more) tx txs (omega arith) here are))
          ∙ ap (λ it. (if it then Some tx else known tx) ∷ seen known (first + 1) (places_of (given ∷ more)) txs) (sym (below_rise first (first + 1) total (places_of (given ∷ more)) (omega arith) here))
      | inr most ↦ let is : given.place ≡ first = omega (arith, low, most) in
          let none : given.place - first ≡ 0 = omega (arith, is) in
          let later : Rise (first + 1) total (places_of more) = subst (λ n. Rise (n + 1) total (places_of more)) is rest in
          let head = All-head (λ given. slice_get (tx ∷ txs) (given.place - first) ≡ Some given.tx) given more are in
          let tail = All-tail (λ given. slice_get (tx ∷ txs) (given.place - first) ≡ Some given.tx) given more are in
          let same : Some given.tx ≡ Some tx = sym head ∙ ap (slice_get (tx ∷ txs)) none in
          let others = map known (left_out (first + 1) (places_of more) txs) in
          ap (λ list. laid_out first (given ∷ more) (map known list)) (left_at first given.place (places_of more) tx txs is)
          ∙ laid_at first given more others is
          ∙ ap (λ slot. slot ∷ laid_out (first + 1) more others) same
          ∙ ap (λ list. Some tx ∷ list) (laid_seen known (first + 1) total more txs (omega (arith, all)) later (at_next first (first + 1) total more tx txs (omega arith) later tail))
          ∙ ap (λ list. Some tx ∷ list) (sym (seen_past known (first + 1) given.place (places_of more) txs (omega (arith, is))))
          ∙ ap (λ it. (if (it || is_among first (places_of more)) then Some tx else known tx) ∷ seen known (first + 1) (places_of (given ∷ more)) txs) (sym (eq-eqb given.place first is))
    ]
