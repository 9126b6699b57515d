-- Sums over what hands have, and the numbers that stand once.
use Rattle.std.proofs.Common.{◌≡◌, ◌≢◌, ℕ, zero, suc, ◌+◌, ◌<◌, ◌≤◌, inl, inr, Bool, true, false, cond, eqb, ltb, List, [], ◌∷◌, ◌++◌, length, set, drop, get_or, replicate, refl, sym, ap, ◌∙◌, arith}
use Rattle.std.specs.List.{All, sum_by, count_by, range_with_len}
use Rattle.std.proofs.lemmas.Bool.{cases_lt, eq-eqb, le-ltb}
use Rattle.std.proofs.lemmas.List.{map-id}
use Rattle.std.proofs.lemmas.List.FromFn.{map-range_with_len_more, length-range_with_len}
use Rattle.std.proofs.lemmas.List.Sums.{sum_by-cons, sum_by_push}
use Rattle.std.proofs.lemmas.List.Elements.{All-nil, All-cons}
use mathlib.Core.Option.{some, some-ne-none, some-injective}
use lib.ListN.{get_elem?}
use Rattle.cb_crew.specs.Desks.{DesksReached, opening_desks}
use Rattle.cb_crew.specs.Desks as places
use Rattle.cb_crew.proofs.DesksLaws.{each_once}
use Rattle.cb_crew.specs.RingRule.{HandView, EachOnce, numbers_of}

-- ---- a sum over views, of which one or two are looked at

module _ {V : Type 0} (f : V → ℕ) where
  -- one view became another
  pub sum_set : (views : List V) (seat : ℕ) (v w : V) → get_elem? views seat ≡ some v → sum_by f (set views seat w) + f v ≡ sum_by f views + f w
  sum_set [] seat v w at = absurd (some-ne-none v (sym at))
  sum_set (x ∷ views) zero v w at =
      let same : f x ≡ f v = ap f (some-injective x v at) in
      omega (arith, same, sum_by-cons f w views, sum_by-cons f x views)
  sum_set (x ∷ views) (suc seat) v w at =
      omega (arith, sum_set views seat v w at, sum_by-cons f x (set views seat w), sum_by-cons f x views)

  pub one_below : (views : List V) (seat : ℕ) (v : V) → get_elem? views seat ≡ some v → f v ≤ sum_by f views
  one_below [] seat v at = absurd (some-ne-none v (sym at))
  one_below (x ∷ views) zero v at =
      let same : f x ≡ f v = ap f (some-injective x v at) in
      omega (arith, same, sum_by-cons f x views)
  one_below (x ∷ views) (suc seat) v at = omega (arith, one_below views seat v at, sum_by-cons f x views)

  pub two_below : (views : List V) (seat other : ℕ) (v w : V) → other ≢ seat → get_elem? views seat ≡ some v → get_elem? views other ≡ some w → f v + f w ≤ sum_by f views
  two_below [] seat other v w apart at at' = absurd (some-ne-none v (sym at))
  two_below (x ∷ views) zero zero v w apart at at' = absurd (apart refl)
  two_below (x ∷ views) zero (suc other) v w apart at at' =
      let same : f x ≡ f v = ap f (some-injective x v at) in
      omega (arith, same, one_below views other w at', sum_by-cons f x views)
  two_below (x ∷ views) (suc seat) zero v w apart at at' =
      let same : f x ≡ f w = ap f (some-injective x w at') in
      omega (arith, same, one_below views seat v at, sum_by-cons f x views)
  two_below (x ∷ views) (suc seat) (suc other) v w apart at at' =
      omega (arith, two_below views seat other v w (λ e. apart (ap suc e)) at at', sum_by-cons f x views)

  sum_none : (views : List V) → ((j : ℕ) (u : V) → get_elem? views j ≡ some u → f u ≡ 0) → sum_by f views ≡ 0
  sum_none [] none = refl
  sum_none (x ∷ views) none =
      let first : f x ≡ 0 = none 0 x refl in
      omega (arith, first, sum_none views (λ j u e. none (suc j) u e), sum_by-cons f x views)

  -- all others have nothing
  pub sum_alone : (views : List V) (seat : ℕ) (v : V) → get_elem? views seat ≡ some v → ((j : ℕ) (u : V) → j ≢ seat → get_elem? views j ≡ some u → f u ≡ 0) → sum_by f views ≡ f v
  sum_alone [] seat v at others = absurd (some-ne-none v (sym at))
  sum_alone (x ∷ views) zero v at others =
      let same : f x ≡ f v = ap f (some-injective x v at) in
      let rest : sum_by f views ≡ 0 = sum_none views (λ j u e. others (suc j) u (λ (h : suc j ≡ 0). omega arith) e) in
      omega (arith, same, rest, sum_by-cons f x views)
  sum_alone (x ∷ views) (suc seat) v at others =
      let first : f x ≡ 0 = others 0 x (λ (h : 0 ≡ suc seat). omega arith) refl in
      omega (
        arith,
        first,
        sum_alone views seat v at (λ j u apart e. others (suc j) u (λ (h : suc j ≡ suc seat). apart (omega arith)) e),
        sum_by-cons f x views,
      )

-- as weights of 1 each
pub ones : (xs : List ℕ) → sum_by (λ _. 1) xs ≡ length xs
ones [] = refl
ones (x ∷ xs) = omega (arith, sum_by-cons (λ (_ : ℕ). 1) x xs, ones xs)

-- a range of one more
pub range_push : (n : ℕ) → range_with_len 0 (n + 1) ≡ range_with_len 0 n ++ n ∷ []
range_push n =
    sym (map-id (range_with_len 0 (n + 1)))
    ∙ (map-range_with_len_more (λ (x : ℕ). x) 0 n n (omega arith) ∙ ap (λ (xs : List ℕ). xs ++ n ∷ []) (map-id (range_with_len 0 n)))

pub range_weighs : (h : ℕ → ℕ) (n m : ℕ) → m ≡ n + 1 → sum_by h (range_with_len 0 m) ≡ sum_by h (range_with_len 0 n) + h n
range_weighs h n m more =
    ap (λ k. sum_by h (range_with_len 0 k)) more ∙ (ap (sum_by h) (range_push n) ∙ sum_by_push h (range_with_len 0 n) n)

-- ---- each number once, move by move

module _ {X : Type 0} (has : HandView X → List ℕ) where
  -- one hand's view changed
  pub once_moved : (before after : List ℕ) (views : List (HandView X)) (seat n m : ℕ) (v w : HandView X) → EachOnce before has views n → get_elem? views seat ≡ some v
      → ((h : ℕ → ℕ) → sum_by h after + sum_by h (has w) + sum_by h (range_with_len 0 n) ≡ sum_by h before + sum_by h (has v) + sum_by h (range_with_len 0 m))
      → EachOnce after has (set views seat w) m
  once_moved before after views seat n m v w once at same h =
      omega (arith, once h, same h, sum_set (λ (u : HandView X). sum_by h (has u)) views seat v w at)

  -- a hand was cut in two
  pub once_forked : (waiting : List ℕ) (views : List (HandView X)) (seat n m : ℕ) (v left right : HandView X) → EachOnce waiting has views n → get_elem? views seat ≡ some v
      → ((h : ℕ → ℕ) → sum_by h (has left) + sum_by h (has right) + sum_by h (range_with_len 0 n) ≡ sum_by h (has v) + sum_by h (range_with_len 0 m))
      → EachOnce waiting has (set views seat left ++ right ∷ []) m
  once_forked waiting views seat n m v left right once at same h =
      omega (arith, once h, same h, sum_set (λ (u : HandView X). sum_by h (has u)) views seat v left at, sum_by_push (λ (u : HandView X). sum_by h (has u)) (set views seat left) right)

  -- a hand took in another
  pub once_merged : (waiting : List ℕ) (views : List (HandView X)) (seat other n : ℕ) (v w both spent : HandView X) → EachOnce waiting has views n → get_elem? views seat ≡ some v → get_elem? (set views seat both) other ≡ some w
      → ((h : ℕ → ℕ) → sum_by h (has both) + sum_by h (has spent) ≡ sum_by h (has v) + sum_by h (has w))
      → EachOnce waiting has (set (set views seat both) other spent) n
  once_merged waiting views seat other n v w both spent once at at' same h =
      omega (
        arith,
        once h,
        same h,
        sum_set (λ (u : HandView X). sum_by h (has u)) views seat v both at,
        sum_set (λ (u : HandView X). sum_by h (has u)) (set views seat both) other w spent at',
      )

-- ---- the numbers of hands

abbrev one_if : Bool → ℕ
one_if b = cond b 1 0

at_most_one_if : (b : Bool) → one_if b ≤ 1
at_most_one_if true = omega arith
at_most_one_if false = omega arith

-- how often a number stands in a range
pub in_range : (a n : ℕ) → count_by (eqb a) (range_with_len 0 n) ≡ cond (ltb a n) 1 0
in_range a n =
    let reached : DesksReached n 0 (opening_desks n 0) = places.opening in
    let counted : count_by (eqb a) (range_with_len 0 n) + sum_by (count_by (eqb a)) (replicate 0 []) ≡ cond (ltb a n) 1 0 = each_once reached a in
    let none : sum_by (count_by (eqb a)) (replicate 0 []) ≡ 0 = refl in
    omega (arith, counted, none)

count_cons : (a k : ℕ) (ks : List ℕ) → count_by (eqb a) (k ∷ ks) ≡ cond (eqb a k) 1 0 + count_by (eqb a) ks
count_cons a k ks = sum_by-cons (λ x. cond (eqb a x) 1 0) k ks

count_first : (a : ℕ) (ks : List ℕ) → count_by (eqb a) (a ∷ ks) ≡ 1 + count_by (eqb a) ks
count_first a ks = omega (arith, count_cons a a ks, ap one_if (eq-eqb a a refl))

-- a number that isn't counted doesn't stand there
not_there : (a : ℕ) (ks : List ℕ) → count_by (eqb a) ks ≡ 0 → All (λ k. k ≢ a) ks
not_there a [] none = All-nil (λ k. k ≢ a)
not_there a (k ∷ ks) none =
    All-cons (λ j. j ≢ a) k ks
    (λ (same : k ≡ a). omega (arith, none, count_cons a k ks, ap one_if (eq-eqb a k (sym same))))
    (not_there a ks (omega (arith, none, count_cons a k ks)))

-- how often a hand has a number
abbrev counted_in : {X : Type 0} → ℕ → HandView X → ℕ
counted_in a v = count_by (eqb a) v.numbers

all_counted : {X : Type 0} (views : List (HandView X)) (n a : ℕ) → EachOnce [] numbers_of views n → sum_by (counted_in a) views ≡ cond (ltb a n) 1 0
all_counted views n a once =
    let weighed : sum_by (λ (x : ℕ). cond (eqb a x) 1 0) [] + sum_by (counted_in a) views ≡ count_by (eqb a) (range_with_len 0 n) = once (λ x. cond (eqb a x) 1 0) in
    let none : sum_by (λ (x : ℕ). cond (eqb a x) 1 0) [] ≡ 0 = refl in
    omega (arith, weighed, none, in_range a n)

-- a list that isn't empty
pub parts_of : (xs : List ℕ) → 0 < length xs → xs ≡ get_or xs 0 0 ∷ drop 1 xs
parts_of [] live = absurd (omega arith)
parts_of (x ∷ xs) live = refl

first_counted : {X : Type 0} (v : HandView X) → 0 < length v.numbers → counted_in (get_or v.numbers 0 0) v ≡ 1 + count_by (eqb (get_or v.numbers 0 0)) (drop 1 v.numbers)
first_counted v live = ap (count_by (eqb (get_or v.numbers 0 0))) (parts_of v.numbers live) ∙ count_first (get_or v.numbers 0 0) (drop 1 v.numbers)

-- a hand acts as a handler that there is
pub first_below : {X : Type 0} (views : List (HandView X)) (n seat : ℕ) (v : HandView X) → EachOnce [] numbers_of views n → get_elem? views seat ≡ some v → 0 < length v.numbers → get_or v.numbers 0 0 < n
first_below views n seat v once at live =
    let a : ℕ = get_or v.numbers 0 0 in
    elim (cases_lt a n) [
      | inl lt ↦ lt
      | inr le ↦ absurd (omega (arith, first_counted v live, one_below (counted_in a) views seat v at, all_counted views n a once, ap one_if (le-ltb a n le)))
    ]

-- it stands for none but once
pub own_numbers : {X : Type 0} (views : List (HandView X)) (n seat : ℕ) (v : HandView X) → EachOnce [] numbers_of views n → get_elem? views seat ≡ some v → 0 < length v.numbers → All (λ k. k ≢ get_or v.numbers 0 0) (drop 1 v.numbers)
own_numbers views n seat v once at live =
    let a : ℕ = get_or v.numbers 0 0 in
    not_there a (drop 1 v.numbers) (omega (arith, first_counted v live, one_below (counted_in a) views seat v at, all_counted views n a once, at_most_one_if (ltb a n)))

-- and no other hand acts as that handler
pub other_numbers : {X : Type 0} (views : List (HandView X)) (n seat other : ℕ) (v u : HandView X) → EachOnce [] numbers_of views n → get_elem? views seat ≡ some v → 0 < length v.numbers → other ≢ seat → get_elem? views other ≡ some u → All (λ k. k ≢ get_or v.numbers 0 0) u.numbers
other_numbers views n seat other v u once at live apart at' =
    let a : ℕ = get_or v.numbers 0 0 in
    not_there a u.numbers (omega (arith, first_counted v live, two_below (counted_in a) views seat other v u apart at at', all_counted views n a once, at_most_one_if (ltb a n)))

-- where one hand stands for all handlers, no other stands for one
pub alone : {X : Type 0} (views : List (HandView X)) (n seat other : ℕ) (v u : HandView X) → EachOnce [] numbers_of views n → get_elem? views seat ≡ some v → length v.numbers ≡ n → other ≢ seat → get_elem? views other ≡ some u → length u.numbers ≡ 0
alone {X} views n seat other v u once at all apart at' =
    let weighed : sum_by (λ (x : ℕ). 1) [] + sum_by (λ (x : HandView X). sum_by (λ (_ : ℕ). 1) x.numbers) views ≡ sum_by (λ (x : ℕ). 1) (range_with_len 0 n) = once (λ x. 1) in
    let none : sum_by (λ (x : ℕ). 1) [] ≡ 0 = refl in
    omega (
      arith,
      weighed,
      none,
      all,
      ones v.numbers,
      ones u.numbers,
      ones (range_with_len 0 n),
      length-range_with_len 0 n,
      two_below (λ (x : HandView X). sum_by (λ (_ : ℕ). 1) x.numbers) views seat other v u apart at at',
    )
