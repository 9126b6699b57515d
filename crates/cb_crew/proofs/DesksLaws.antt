-- Laws of the desks: they need only that acts lead to their places.
use Rattle.std.proofs.Common.{◌≡◌, ℕ, suc, zero, zero-add, ◌+◌, ◌<◌, ◌≤◌, Bool, cond, eqb, ltb, List, [], ◌∷◌, length, take, get_or, replicate, refl, ap, ◌∙◌, arith, inl, inr}
use Rattle.std.specs.List.{sum_by, count_by, range_with_len}
use Rattle.std.proofs.lemmas.Bool.{cases_lt, cases_eq, lt-ltb, le-ltb, eq-eqb, ne_eqb}
use Rattle.std.proofs.lemmas.List.{length-set, length-replicate, length-take, get_or-set_same, get_or-set_other, get_or-replicate, get_or_past}
use Rattle.std.proofs.lemmas.List.FromFn.{length-range_with_len}
use Rattle.std.proofs.lemmas.List.Sums.{sum_by-cons, sum_by-append, sum_by-set, sum_by-take-drop, get_or-le-sum_by}
use Rattle.cb_crew.specs.Desks.{Desks, DesksReached, opening, claim, give, held_by}
use Rattle.cb_crew.specs.Laws.{EachDeskOnce}

-- hands that hold nothing weigh nothing
free_hands : (weight : ℕ → ℕ) (n : ℕ) → sum_by (sum_by weight) (replicate n []) ≡ 0
free_hands weight zero = refl
free_hands weight (suc n) = omega (arith, sum_by-cons (sum_by weight) [] (replicate n []), free_hands weight n)

pub handlers_stay : {peers handlers : ℕ} {d : Desks} → DesksReached peers handlers d → length d.held ≡ handlers
handlers_stay {handlers = handlers} opening = length-replicate handlers []
handlers_stay (claim d k desk rest r lt free waits) = length-set d.held k (take 1 d.ring) ∙ handlers_stay r
handlers_stay (give d k desk r lt holds) = length-set d.held k [] ∙ handlers_stay r

-- whatever the desks weigh, those in the ring and those in hands weigh what all desks of the crew do
pub weights : (weight : ℕ → ℕ) {peers handlers : ℕ} {d : Desks} → DesksReached peers handlers d → sum_by weight d.ring + sum_by (sum_by weight) d.held ≡ sum_by weight (range_with_len 0 peers)
weights weight {handlers = handlers} opening = omega (arith, free_hands weight handlers)
weights weight (claim d k desk rest r lt free waits) =
    omega (arith, weights weight r, ap (sum_by weight) free, sum_by-take-drop weight d.ring 1, sum_by-set (sum_by weight) d.held k (take 1 d.ring) [] lt)
weights weight (give d k desk r lt holds) =
    omega (arith, weights weight r, sum_by-append weight d.ring (held_by d k), sum_by-set (sum_by weight) d.held k [] [] lt)

-- no handler holds more than one desk
pub at_most_one : {peers handlers : ℕ} {d : Desks} → DesksReached peers handlers d → (j : ℕ) → length (held_by d j) ≤ 1
at_most_one {handlers = handlers} opening j =
    elim (cases_lt j handlers) [
      | inl lt ↦ rw (get_or-replicate {A = List ℕ} handlers j [] [] lt) (omega arith)
      | inr le ↦ rw (get_or_past {X = List ℕ} (replicate handlers []) j [] (omega (arith, length-replicate {A = List ℕ} handlers []))) (omega arith)
    ]
at_most_one (claim d k desk rest r lt free waits) j =
    elim (cases_eq j k) [
      | inl same ↦ rw (same, get_or-set_same d.held k (take 1 d.ring) [] lt) (omega (arith, length-take 1 d.ring))
      | inr other ↦ rw (get_or-set_other d.held k j (take 1 d.ring) [] other) (at_most_one r j)
    ]
at_most_one (give d k desk r lt holds) j =
    elim (cases_eq j k) [
      | inl same ↦ rw (same, get_or-set_same d.held k [] [] lt) (omega arith)
      | inr other ↦ rw (get_or-set_other d.held k j [] [] other) (at_most_one r j)
    ]

abbrev one_if : Bool → ℕ
one_if b = cond b 1 0

count_cons : (p a : ℕ) (xs : List ℕ) → count_by (eqb p) (a ∷ xs) ≡ cond (eqb p a) 1 0 + count_by (eqb p) xs
count_cons p a xs = sum_by-cons (λ x. cond (eqb p x) 1 0) a xs

step : (a n : ℕ) → a + 1 + n ≡ a + suc n
step a n = omega arith

-- a number below a range doesn't stand in it
count_none : (p a n : ℕ) → p < a → count_by (eqb p) (range_with_len a n) ≡ 0
count_none p a zero lt = refl
count_none p a (suc n) lt =
    omega (arith, count_cons p a (range_with_len (a + 1) n), ap one_if (ne_eqb p a (omega arith)), count_none p (a + 1) n (omega arith))

-- how often a number stands in a range
count_from : (p a n : ℕ) → a ≤ p → count_by (eqb p) (range_with_len a n) ≡ cond (ltb p (a + n)) 1 0
count_from p a zero le = rw (le-ltb p (a + 0) (omega arith)) refl
count_from p a (suc n) le =
    elim (cases_eq p a) [
      | inl same ↦ rw (lt-ltb p (a + suc n) (omega arith)) (omega (arith, count_cons p a (range_with_len (a + 1) n), ap one_if (eq-eqb p a same), count_none p (a + 1) n (omega arith)))
      | inr other ↦
          omega (arith, count_cons p a (range_with_len (a + 1) n), ap one_if (ne_eqb p a other), count_from p (a + 1) n (omega arith), ap (λ m. one_if (ltb p m)) (step a n))
    ]

pub each_once : {peers handlers : ℕ} {d : Desks} → DesksReached peers handlers d → EachDeskOnce peers d
each_once {peers = peers} r p = weights (λ x. cond (eqb p x) 1 0) r ∙ (count_from p 0 peers (omega arith) ∙ ap (λ m. one_if (ltb p m)) (zero-add peers))

-- as weights of 1 each
ones : (xs : List ℕ) → sum_by (λ _. 1) xs ≡ length xs
ones [] = refl
ones (x ∷ xs) = omega (arith, sum_by-cons (λ (_ : ℕ). 1) x xs, ones xs)

ones_held : (held : List (List ℕ)) → sum_by (sum_by (λ _. 1)) held ≡ sum_by length held
ones_held [] = refl
ones_held (xs ∷ held) = omega (arith, sum_by-cons (sum_by (λ (_ : ℕ). 1)) xs held, sum_by-cons (length {A = ℕ}) xs held, ones xs, ones_held held)

-- all desks together are as many as the peers
pub desks_count : {peers handlers : ℕ} {d : Desks} → DesksReached peers handlers d → length d.ring + sum_by length d.held ≡ peers
desks_count {peers = peers} {d = d} r = omega (arith, weights (λ _. 1) r, ones d.ring, ones_held d.held, ones (range_with_len 0 peers), length-range_with_len 0 peers)

-- a handler that holds a desk exists
pub holder_exists : (d : Desks) (k : ℕ) → 0 < length (held_by d k) → k < length d.held
holder_exists d k holds =
    elim (cases_lt k (length d.held)) [
      | inl lt ↦ lt
      | inr le ↦ absurd (omega (arith, ap (length {A = ℕ}) (get_or_past d.held k [] le)))
    ]

-- while a desk is held, the ring is shorter than the peers are many
pub ring_short : {peers handlers : ℕ} {d : Desks} → DesksReached peers handlers d → (k : ℕ) → 0 < length (held_by d k) → length d.ring < peers
ring_short {d = d} r k holds = omega (arith, desks_count r, get_or-le-sum_by (length {A = ℕ}) d.held k [] (holder_exists d k holds))

-- a handler that holds something holds one desk
one_desk : (ps : List ℕ) → 0 < length ps → length ps ≤ 1 → ps ≡ get_or ps 0 0 ∷ []
one_desk [] some one = absurd (omega arith)
one_desk (p ∷ []) some one = refl
one_desk (p ∷ q ∷ ps) some one = absurd (omega arith)

pub holds_one : {peers handlers : ℕ} {d : Desks} → DesksReached peers handlers d → (k : ℕ) → 0 < length (held_by d k) → held_by d k ≡ get_or (held_by d k) 0 0 ∷ []
holds_one {d = d} r k holds = one_desk (held_by d k) holds (at_most_one r k)

count_single : (p : ℕ) → count_by (eqb p) (p ∷ []) ≡ 1
count_single p = omega (arith, count_cons p p [], ap one_if (eq-eqb p p refl))

-- a held desk is a peer's
pub held_below : {peers handlers : ℕ} {d : Desks} → DesksReached peers handlers d → (k : ℕ) → 0 < length (held_by d k) → get_or (held_by d k) 0 0 < peers
held_below {peers = peers} {d = d} r k holds =
    let p = get_or (held_by d k) 0 0 in
    elim (cases_lt p peers) [
      | inl lt ↦ lt
      | inr le ↦
          absurd (omega (
            arith,
            each_once r p,
            ap one_if (le-ltb p peers le),
            get_or-le-sum_by (count_by (eqb p)) d.held k [] (holder_exists d k holds),
            ap (count_by (eqb p)) (holds_one r k holds),
            count_single p,
          ))
    ]
