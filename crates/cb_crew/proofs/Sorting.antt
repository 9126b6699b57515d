-- Desks that were sorted by their peers stand in the peers' order.
use Rattle.std.proofs.Common.{◌≡◌, ℕ, zero, suc, inl, inr, ◌+◌, ◌<◌, ◌≤◌, Bool, cond, ltb, List, [], ◌∷◌, length, map, get_or, refl, sym, ap, subst, ◌∙◌, arith}
use Rattle.std.specs.List.{All, sum_by, range_with_len}
use Rattle.std.specs.List.Sorted.{IsNonDecreasing, IsNonDecreasingBy, IsPermutation}
use Rattle.std.proofs.lemmas.Bool.{cases_lt, lt-ltb, le-ltb}
use Rattle.std.proofs.lemmas.List.{ext_get_or, get_or_default, get_or-map, length-map, nil_from_length}
use Rattle.std.proofs.lemmas.List.FromFn.{get_or-range_with_len, length-range_with_len}
use Rattle.std.proofs.lemmas.List.Sorted.{All-permutation, IsPermutation-map, sum_by-IsPermutation}
use Rattle.std.proofs.lemmas.List.Sums.{sum_by-cons}
use Rattle.std.proofs.lemmas.Simd.{map-map}
use Rattle.cb_crew.specs.Ring.{DeskName, Shown, IsOfCrew, peers_of}
use Rattle.cb_crew.specs.Crew.{CrewState, AreAllDesks, AreDeskNames, AreInOrder}
use Rattle.cb_crew.proofs.Crews.{names_count}

-- ---- numbers in order, of which each stands once

-- how many are below this one
below : ℕ → List ℕ → ℕ
below b xs = sum_by (λ y. cond (ltb y b) 1 0) xs

below_cons : (b x : ℕ) (xs : List ℕ) → below b (x ∷ xs) ≡ cond (ltb x b) 1 0 + below b xs
unfolding below
below_cons b x xs = sum_by-cons (λ y. cond (ltb y b) 1 0) x xs

none_below : (b : ℕ) (xs : List ℕ) → ((k d : ℕ) → k < length xs → b ≤ get_or xs k d) → below b xs ≡ 0
unfolding below
none_below b [] all = refl
none_below b (x ∷ xs) all = omega (arith, below_cons b x xs, ap {B = ℕ} (λ (t : Bool). cond t 1 0) (le-ltb x b (all 0 0 (omega arith))), none_below b xs (λ k d lt. all (suc k) d (omega (arith, lt))))

-- the first isn't below where none is
first_not_below : (b x : ℕ) (xs : List ℕ) → below b (x ∷ xs) ≡ 0 → b ≤ x
first_not_below b x xs none =
    elim (cases_lt x b) [
      | inl lt ↦ absurd (omega (arith, none, below_cons b x xs, ap {B = ℕ} (λ (t : Bool). cond t 1 0) (lt-ltb x b lt)))
      | inr le ↦ le
    ]

pub range_in_order : (xs : List ℕ) (a n : ℕ) → IsNonDecreasing xs → ((weight : ℕ → ℕ) → sum_by weight xs ≡ sum_by weight (range_with_len a n)) → xs ≡ range_with_len a n
unfolding below
range_in_order [] a zero up same = refl
range_in_order (x ∷ xs) a zero up same = absurd (omega (arith, same (λ _. 1), sum_by-cons (λ _. 1) x xs))
range_in_order [] a (suc n) up same = absurd (omega (arith, same (λ _. 1), sum_by-cons (λ _. 1) a (range_with_len (a + 1) n)))
range_in_order (x ∷ xs) a (suc n) up same =
    let low : a ≤ x = first_not_below a x xs (same (λ y. cond (ltb y a) 1 0) ∙ none_below a (range_with_len a (suc n)) (λ k d lt. omega (arith, get_or-range_with_len a (suc n) k d (omega (arith, lt, length-range_with_len a (suc n)))))) in
    let high : x ≤ a = first_not_below x a (range_with_len (a + 1) n) (sym (same (λ y. cond (ltb y x) 1 0)) ∙ none_below x (x ∷ xs) (λ k d lt. up 0 k d (omega arith) lt)) in
    let is : x ≡ a = omega (arith, low, high) in
    let rest : xs ≡ range_with_len (a + 1) n = range_in_order xs (a + 1) n (λ i j d le lt. up (suc i) (suc j) d (omega (arith, le)) (omega (arith, lt)))
    (λ w. omega (arith, same w, sum_by-cons w x xs, sum_by-cons w a (range_with_len (a + 1) n), ap w is)) in
    ap (λ y. y ∷ xs) is ∙ ap (λ ys. a ∷ ys) rest

-- ---- desks

map_up : {X : Type 0} (n : X → ℕ) (xs : List X) → IsNonDecreasingBy n xs → IsNonDecreasing (map n xs)
map_up n [] up i j d le lt = absurd (omega (arith, lt))
map_up n (x ∷ xs) up i j d le lt =
    let within : j < length (x ∷ xs) = omega (arith, lt, length-map (x ∷ xs) n) in
    omega (arith, up i j x le within, get_or-map n (x ∷ xs) i x d (omega (arith, within, le)), get_or-map n (x ∷ xs) j x d within)

-- desks in their peers' order have the peers' names
named_in_order : {X : Type 0} (names : List DeskName) (desks : List (Shown X)) → peers_of desks ≡ range_with_len 0 (length names) → All (IsOfCrew names) desks → map (λ (desk : Shown X). desk.name) desks ≡ names
named_in_order names [] order named = sym (nil_from_length names (omega (arith, ap length order, length-range_with_len 0 (length names))))
named_in_order {X} names (first ∷ rest) order named =
    let desks : List (Shown X) = first ∷ rest in
    let count : length desks ≡ length names = omega (arith, ap length order, length-map desks (λ (s : Shown X). s.peer), length-range_with_len 0 (length names)) in
    ext_get_or first.name (map (λ (s : Shown X). s.name) desks) names (length-map desks (λ (s : Shown X). s.name) ∙ count) (λ k lt.
    let within : k < length desks = omega (arith, lt, length-map desks (λ (s : Shown X). s.name)) in
    let s : Shown X = get_or desks k first in
    let of : IsOfCrew names s = named k first within in
    let peer : s.peer ≡ k = sym (get_or-map (λ (t : Shown X). t.peer) desks k first 0 within) ∙ (ap (λ ns. get_or ns k 0) order ∙ (get_or-range_with_len 0 (length names) k 0 (omega (arith, within, count)) ∙ omega arith)) in
    let name : get_or names k s.name ≡ s.name = ap (λ i. get_or names i s.name) (sym peer) ∙ of.named in
    get_or-map (λ (t : Shown X). t.name) desks k first first.name within ∙ (sym name ∙ get_or_default names k s.name first.name (omega (arith, within, count))))

pub sorted_in_order : {X D : Type 0} (shown : D → Shown X) (crew : CrewState) (desks sorted : List D) → IsPermutation desks sorted → IsNonDecreasingBy (λ desk. (shown desk).peer) sorted → AreAllDesks crew (map shown desks) → AreInOrder crew (map shown sorted)
sorted_in_order {X} shown crew desks sorted perm up all =
    let moved : IsPermutation (map shown desks) (map shown sorted) = IsPermutation-map shown desks sorted perm in
    let order : peers_of (map shown sorted) ≡ range_with_len 0 (length crew.inboxes) = range_in_order (peers_of (map shown sorted)) 0 (length crew.inboxes)
    (subst IsNonDecreasing (sym (map-map (λ (s : Shown X). s.peer) shown sorted)) (map_up (λ desk. (shown desk).peer) sorted up))
    (λ w. sum_by-IsPermutation w (peers_of (map shown desks)) (peers_of (map shown sorted)) (IsPermutation-map (λ (s : Shown X). s.peer) (map shown desks) (map shown sorted) moved) ∙ all.each w) in
    let count : length crew.inboxes ≡ length all.names = sym (names_count crew all.names all.names_is) in
    let named = named_in_order all.names (map shown sorted) (order ∙ ap (range_with_len 0) count) (All-permutation (IsOfCrew all.names) (map shown desks) (map shown sorted) moved all.named) in
    record { peers = order; names = subst (AreDeskNames crew) (sym named) all.names_is }
