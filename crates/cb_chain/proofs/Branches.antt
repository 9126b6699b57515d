-- The places that are found from a block up: its own, and then those of the kept blocks on each of them. So they are those
-- of the kept blocks above it.
use Rattle.std.proofs.Common.{◌≡◌, ℕ, zero, suc, ◌+◌, ◌<◌, ◌≤◌, ◌⊎◌, Bool, true, false, cond, List, [], ◌∷◌, ◌++◌, length, length-append, get_or, map, take, drop, Option, Some, None, refl, sym, ap, subst, ◌∙◌, arith, inl, inr}
use Rattle.std.specs.Prelude.{◌&&◌, ◌||◌, flat_map, is_some, nat_eq, nat_lt, option_map, reverse, slice_get}
use Rattle.std.proofs.lemmas.Bool.{cases_Bool, cases_lt, false≢true}
use Rattle.std.proofs.lemmas.Bool.Decides.{nat_tests}
use Rattle.std.proofs.lemmas.List.{flat_map_more, length-map, reverse-reverse, take-append-drop, take-append-le, take_all, take_more}
use Rattle.std.proofs.lemmas.Option.{get_or_from_slice_get, same_Some, slice_get_within}
use Rattle.std.proofs.Math.ListN.{set}
use Rattle.cb_base.specs.declared.hash.Hash256.{Hash256}
use Rattle.cb_chain.specs.Marking.{BlockIndex}
use Rattle.cb_chain.specs.Entries.{block_hash, genesis_hash, same, is_kept}
use Rattle.cb_chain.specs.Best.{leads_through}
use Rattle.cb_chain.specs.Keeping.{AreIndexes, IsTree, above_at, above_first, entry_from, mark_index, mark_indexes, marked_indexes, place_of, tree_of}
use Rattle.cb_chain.proofs.Links.{above_long}
use Rattle.cb_chain.proofs.Marks.{kept_itself, kept_under, leads_none, leads_under, length_marks, marked_as, index_at}
use Rattle.cb_chain.proofs.BlockIndexes.{chosen, get_front, reverse_cons, same-refl, same-true}
use Rattle.cb_chain.proofs.Places.{eq_less, eq_more, eq_same, eq_true, get_set, index_snoc, same_each}
use Rattle.cb_chain.proofs.Tries.{parent_low}
use Rattle.cb_chain.proofs.PathsDown.{kept_place}

-- ---- how often a place stands in a list

abbrev pub count : ℕ → List ℕ → ℕ
count p [] = 0
count p (y ∷ ys) = cond (nat_eq p y) 1 0 + count p ys

count_append : (p : ℕ) (xs ys : List ℕ) → count p (xs ++ ys) ≡ count p xs + count p ys
count_append p [] ys = omega arith
count_append p (x ∷ xs) ys = omega (arith, count_append p xs ys)

count_take : (p n : ℕ) (xs : List ℕ) → count p (take n xs) ≤ count p xs
count_take p n xs = omega (arith, ap (count p) (take-append-drop n xs), count_append p (take n xs) (drop n xs))

count_put : (b : Bool) (p y : ℕ) (ys : List ℕ) → count p (cond b (y ∷ ys) ys) ≡ cond (b && nat_eq p y) 1 0 + count p ys
count_put true p y ys = refl
count_put false p y ys = omega arith

and_all : (b : Bool) → cond (b && true) 1 0 + 0 ≡ cond b 1 0
and_all true = refl
and_all false = refl

and_rest : (b : Bool) (n : ℕ) → cond (b && false) 1 0 + n ≡ n
and_rest true n = omega arith
and_rest false n = omega arith

-- a place of no block index isn't on any
abbrev IsOut : List BlockIndex → ℕ → Type 0
IsOut above p = (y : ℕ) → 0 < y → y < suc (length above) → nat_eq p y ≡ false

count_out : (above : List BlockIndex) (p q : ℕ) → IsOut above p → count p (above_at above q) ≡ 0
count_out [] p q out = refl
count_out (block_index ∷ older) p q out =
    let b = is_some block_index.kept && nat_eq block_index.parent q in
    let rest : count p (above_at older q) ≡ 0 = count_out older p q (λ y some low. out y some (omega (arith, low))) in
    let here : nat_eq p (suc (length older)) ≡ false = out (suc (length older)) (omega arith) (omega arith) in
    count_put b p (suc (length older)) (above_at older q) ∙ rw (here, rest) (and_rest b 0)

-- a block index's is on its parent alone, where its block is kept
count_above : (first : BlockIndex) (above : List BlockIndex) (p q : ℕ) (block_index : BlockIndex) → 0 < p → slice_get (first ∷ reverse above) p ≡ Some block_index → count p (above_at above q) ≡ cond (is_some block_index.kept && nat_eq block_index.parent q) 1 0
count_above first [] zero q block_index some at = absurd (omega (arith, some))
count_above first [] (suc p) q block_index some at = absurd (let none : None ≡ Some block_index = at in cc)
count_above first (top ∷ older) p q block_index some at =
    let here = suc (length older) in
    let b = is_some top.kept && nat_eq top.parent q in
    let read : cond (nat_eq p here) (Some top) (slice_get (first ∷ reverse older) p) ≡ Some block_index = sym (index_snoc first top older p) ∙ at in
    let put = count_put b p here (above_at older q) in
    elim (cases_Bool (nat_eq p here)) [
      | inl w ↦
          let one : top ≡ block_index = let it : Some top ≡ Some block_index = rw w at read in same_Some top block_index it in
          let none : count p (above_at older q) ≡ 0 = count_out older p q (λ y _ low. eq_more p y (omega (arith, low, eq_true p here w))) in
          put ∙ rw (w, none) (and_all b) ∙ ap (λ (n : BlockIndex). cond (is_some n.kept && nat_eq n.parent q) 1 0) one
      | inr w ↦
          let it : slice_get (first ∷ reverse older) p ≡ Some block_index = rw w at read in
          put ∙ rw w (and_rest b (count p (above_at older q))) ∙ count_above first older p q block_index some it
    ]

-- ---- on several of them

count_flat : (on : ℕ → List ℕ) (p parent : ℕ) (kept : Bool) → ((q : ℕ) → count p (on q) ≡ cond (kept && nat_eq parent q) 1 0) → (xs : List ℕ) → count p (flat_map on xs) ≡ cond kept (count parent xs) 0
count_flat on p parent true each [] = refl
count_flat on p parent false each [] = refl
count_flat on p parent true each (x ∷ xs) = omega (arith, each x, count_flat on p parent true each xs, count_append p (on x) (flat_map on xs))
count_flat on p parent false each (x ∷ xs) = omega (arith, each x, count_flat on p parent false each xs, count_append p (on x) (flat_map on xs))

long_step : (kept on : Bool) (y : ℕ) (ys : List ℕ) → length (cond (kept && on) (y ∷ ys) ys) ≤ cond on 1 0 + length ys
long_step true true y ys = omega arith
long_step true false y ys = omega arith
long_step false on y ys = omega arith

-- one block index more adds its place no more often than its parent stands there
long_more : (block_index : BlockIndex) (older : List BlockIndex) (xs : List ℕ) → length (flat_map (above_at (block_index ∷ older)) xs) ≤ length (flat_map (above_at older) xs) + count block_index.parent xs
long_more block_index older [] = omega arith
long_more block_index older (x ∷ xs) =
    let one : length (above_at (block_index ∷ older) x) ≤ cond (nat_eq block_index.parent x) 1 0 + length (above_at older x) = long_step (is_some block_index.kept) (nat_eq block_index.parent x) (suc (length older)) (above_at older x) in
    omega (arith, long_more block_index older xs, one, length-append (above_at (block_index ∷ older) x) (flat_map (above_at (block_index ∷ older)) xs), length-append (above_at older x) (flat_map (above_at older) xs))

none_above : (xs : List ℕ) → length (flat_map (above_at []) xs) ≡ 0
none_above [] = refl
none_above (x ∷ xs) = none_above xs

-- where each stands there once at most, no more are found than there are block indexes
few_above : (above : List BlockIndex) (xs : List ℕ) → ((p : ℕ) → count p xs ≤ 1) → length (flat_map (above_at above) xs) ≤ length above
few_above [] xs once = omega (arith, none_above xs)
few_above (block_index ∷ older) xs once = omega (arith, few_above older xs once, once block_index.parent, long_more block_index older xs)

-- ---- what is found

-- a place, and then those on each of the first so many
abbrev pub IsFound : List BlockIndex → ℕ → ℕ → List ℕ → Type 0
IsFound block_indexes f turn found = found ≡ f ∷ flat_map (above_at (above_first block_indexes)) (take turn found)

count_at : (block_indexes : List BlockIndex) (p q : ℕ) (block_index : BlockIndex) → IsTree block_indexes → 0 < p → slice_get block_indexes p ≡ Some block_index → count p (above_at (above_first block_indexes) q) ≡ cond (is_some block_index.kept && nat_eq block_index.parent q) 1 0
count_at [] p q block_index is some at = absurd is
count_at (first ∷ others) p q block_index is some at = count_above first (reverse others) p q block_index some (subst (λ (ns : List BlockIndex). slice_get (first ∷ ns) p ≡ Some block_index) (sym (reverse-reverse others)) at)

count_found : (block_indexes : List BlockIndex) (f turn p : ℕ) (found : List ℕ) (block_index : BlockIndex) → IsTree block_indexes → IsFound block_indexes f turn found → 0 < p → slice_get block_indexes p ≡ Some block_index
    → count p found ≡ cond (nat_eq p f) 1 0 + cond (is_some block_index.kept) (count block_index.parent (take turn found)) 0
count_found block_indexes f turn p found block_index is found_is some at =
    ap (count p) found_is
    ∙ ap (λ (n : ℕ). cond (nat_eq p f) 1 0 + n) (count_flat (above_at (above_first block_indexes)) p block_index.parent (is_some block_index.kept) (λ q. count_at block_indexes p q block_index is some at) (take turn found))

count_unfound : (block_indexes : List BlockIndex) (f turn p : ℕ) (found : List ℕ) → IsFound block_indexes f turn found → IsOut (above_first block_indexes) p → count p found ≡ cond (nat_eq p f) 1 0
count_unfound block_indexes f turn p found found_is out =
    ap (count p) found_is ∙ ap (λ (n : ℕ). cond (nat_eq p f) 1 0 + n) (count_flat (above_at (above_first block_indexes)) p 0 false (λ q. count_out (above_first block_indexes) p q out) (take turn found))
    ∙ (let none : cond (nat_eq p f) 1 0 + 0 ≡ cond (nat_eq p f) 1 0 = omega arith in none)

-- a place is that of a block index above the first, or of none
placed : (block_indexes : List BlockIndex) (p : ℕ) → IsTree block_indexes → ((0 < p) × (p < length block_indexes)) ⊎ IsOut (above_first block_indexes) p
placed block_indexes p is =
    elim (cases_lt 0 p) [
      | inl some ↦
          elim (cases_lt p (length block_indexes)) [
            | inl low ↦ inl (some, low)
            | inr far ↦ inr (λ y some low. eq_more p y (omega (arith, far, low, above_long block_indexes is)))
          ]
      | inr none ↦ inr (λ y some low. eq_less p y (omega (arith, none, some)))
    ]

cond_low : (b : Bool) (n : ℕ) → cond b n 0 ≤ n
cond_low true n = omega arith
cond_low false n = omega arith

-- it was found once at most, and not below the first
once_by : (n p : ℕ) (block_indexes : List BlockIndex) (f turn : ℕ) (found : List ℕ) → p < n → IsTree block_indexes → 0 < f → f < length block_indexes → IsFound block_indexes f turn found → (count p found ≤ 1) × (p < f → count p found ≡ 0)
once_by zero p block_indexes f turn found lt is some low found_is = absurd (omega (arith, lt))
once_by (suc n) p block_indexes f turn found lt is some low found_is =
    elim (placed block_indexes p is) [
      | inl w ↦
          let there = index_at block_indexes p w.1 in
          let down = parent_low block_indexes p there.0 is w.1 w.0 there.1 in
          let below = once_by n there.0.parent block_indexes f turn found (omega (arith, lt, down)) is some low found_is in
          let it = count_found block_indexes f turn p found there.0 is found_is w.0 there.1 in
          let most = cond_low (is_some there.0.kept) (count there.0.parent (take turn found)) in
          let taken = count_take there.0.parent turn found in
          elim (cases_Bool (nat_eq p f)) [
            | inl e ↦
                let same : p ≡ f = eq_true p f e in
                let none = below.1 (omega (arith, down, same)) in
                (omega (arith, rw e at it, most, taken, none), λ less. absurd (omega (arith, less, same)))
            | inr e ↦ (omega (arith, rw e at it, most, taken, below.0), λ less. omega (arith, rw e at it, most, taken, below.1 (omega (arith, down, less))))
          ]
      | inr out ↦
          let apart : nat_eq p f ≡ false = out f some (omega (arith, low, above_long block_indexes is)) in
          let none : count p found ≡ 0 = count_unfound block_indexes f turn p found found_is out ∙ ap (λ (b : Bool). cond b 1 0) apart in
          (omega (arith, none), λ less. none)
    ]

-- so there is room for those on one more
few_found : (block_indexes : List BlockIndex) (f turn n : ℕ) (found : List ℕ) → IsTree block_indexes → 0 < f → f < length block_indexes → IsFound block_indexes f turn found
    → suc (length (flat_map (above_at (above_first block_indexes)) (take n found))) ≤ length block_indexes
few_found block_indexes f turn n found is some low found_is =
    let few = few_above (above_first block_indexes) (take n found) (λ p. omega (arith, (once_by (suc p) p block_indexes f turn found (omega arith) is some low found_is).0, count_take p n found)) in
    omega (arith, few, above_long block_indexes is)

-- ---- what is found is what leads through the first

-- a place is in a list
abbrev pub has : ℕ → List ℕ → Bool
has p xs = nat_lt 0 (count p xs)

-- Which places are those of a branch's blocks: of a kept block index, if it is the lowest or its parent's place is one.
abbrev Tells : BlockIndex → List BlockIndex → Hash256 → (ℕ → Bool) → Type 0
Tells first above lowest m =
    (m 0 ≡ false) × ((p : ℕ) (block_index : BlockIndex) → 0 < p → slice_get (first ∷ reverse above) p ≡ Some block_index → m p ≡ is_some block_index.kept && (same block_index.hash lowest || m block_index.parent))

tells_older : (first block_index : BlockIndex) (older : List BlockIndex) (lowest : Hash256) (m : ℕ → Bool) → Tells first (block_index ∷ older) lowest m → Tells first older lowest m
tells_older first block_index older lowest m tells =
    (tells.0, λ p n some at. tells.1 p n some (subst (λ (ns : List BlockIndex). slice_get (first ∷ ns) p ≡ Some n) (sym (reverse_cons older block_index)) (get_front (first ∷ reverse older) (block_index ∷ []) p n at)))

tells_newest : (first block_index : BlockIndex) (older : List BlockIndex) (lowest : Hash256) (m : ℕ → Bool) → Tells first (block_index ∷ older) lowest m → m (suc (length older)) ≡ is_some block_index.kept && (same block_index.hash lowest || m block_index.parent)
tells_newest first block_index older lowest m tells =
    let here = suc (length older) in
    tells.1 here block_index (omega arith) (index_snoc first block_index older here ∙ ap (λ (b : Bool). cond b (Some block_index) (slice_get (first ∷ reverse older) here)) (eq_same here here refl))

or_cond : (a b : Bool) → cond a true b ≡ a || b
or_cond true b = refl
or_cond false b = refl

leads_told : (first : BlockIndex) (above : List BlockIndex) (lowest hash : Hash256) (m : ℕ → Bool) (p : ℕ) → AreIndexes above → Tells first above lowest m → is_kept (map entry_from above) hash ≡ true
    → place_of (map entry_from above) hash ≡ Some p → leads_through (map entry_from above) lowest hash ≡ m p
leads_told first [] lowest hash m p are tells kept at =
    elim (chosen (same hash genesis_hash) 0 None p at) [
      | inl w ↦ leads_none lowest hash ∙ sym tells.0 ∙ ap m w.1
      | inr w ↦ absurd (let none : None ≡ Some p = w.1 in cc)
    ]
leads_told first (block_index ∷ older) lowest hash m p are tells kept at =
    let es = map entry_from older in
    let here = suc (length older) in
    let deeper = tells_older first block_index older lowest m tells in
    elim (kept_under (entry_from block_index) es hash) [
      | inl w ↦
          let block : is_some block_index.kept ≡ true = sym w.1 ∙ kept in
          let there : Some (suc (length es)) ≡ Some p = rw w.0 at at in
          let it : here ≡ p = ap suc (sym (length-map older entry_from)) ∙ same_Some (suc (length es)) p there in
          let name : hash ≡ block_index.hash = same-true hash (block_hash block_index.header) w.0 ∙ sym are.0.hash in
          let below = leads_told first older lowest block_index.header.prev m block_index.parent are.1 deeper (are.0.under block) are.0.parent in
          leads_under (entry_from block_index) es lowest hash true w.0 ∙ or_cond (same hash lowest) (leads_through es lowest block_index.header.prev)
          ∙ ap (λ (b : Bool). same hash lowest || b) below ∙ ap (λ (h : Hash256). same h lowest || m block_index.parent) name
          ∙ sym (tells_newest first block_index older lowest m tells ∙ ap (λ (b : Bool). b && (same block_index.hash lowest || m block_index.parent)) block) ∙ ap m it
      | inr w ↦ leads_under (entry_from block_index) es lowest hash false w.0 ∙ leads_told first older lowest hash m p are.1 deeper (sym w.1 ∙ kept) (rw w.0 at at)
    ]

and_case : (a l m x : Bool) → (a ≡ true → l ≡ m) → m ≡ a && x → a && l ≡ m
and_case true l m x same_is told = same_is refl
and_case false l m x same_is told = sym told

-- so each block index is marked as they say
each_marked : (first : BlockIndex) (above : List BlockIndex) (lowest : Hash256) (m : ℕ → Bool) (p : ℕ) → AreIndexes above → Tells first above lowest m
    → slice_get (first ∷ reverse (mark_indexes lowest above)) p ≡ option_map (marked_as (m p)) (slice_get (first ∷ reverse above) p)
each_marked first [] lowest m zero are tells = ap (λ (b : Bool). Some (marked_as b first)) (sym tells.0)
each_marked first [] lowest m (suc p) are tells = refl
each_marked first (block_index ∷ older) lowest m p are tells =
    let es = map entry_from older in
    let here = suc (length older) in
    let hash = block_hash block_index.header in
    let deeper = tells_older first block_index older lowest m tells in
    let front = index_snoc first (mark_index lowest es block_index) (mark_indexes lowest older) p
    ∙ ap (λ (n : ℕ). cond (nat_eq p (suc n)) (Some (mark_index lowest es block_index)) (slice_get (first ∷ reverse (mark_indexes lowest older)) p)) (length_marks lowest older) in
    elim (cases_Bool (nat_eq p here)) [
      | inl w ↦
          let through = and_case (is_some block_index.kept) (leads_through (entry_from block_index ∷ es) lowest hash) (m here) (same block_index.hash lowest || m block_index.parent)
          (λ kept. leads_told first (block_index ∷ older) lowest hash m here are tells (kept_itself block_index es kept) (rw (same-refl hash) (ap (λ (n : ℕ). Some (suc n)) (length-map older entry_from))))
          (tells_newest first block_index older lowest m tells) in
          front ∙ rw (w, index_snoc first block_index older p, w) (ap (λ (b : Bool). Some (marked_as b block_index)) (through ∙ ap m (sym (eq_true p here w))))
      | inr w ↦ front ∙ rw (w, index_snoc first block_index older p, w) (each_marked first older lowest m p are.1 deeper)
    ]

-- ---- the walk

-- What the loop keeps: each that its turn had is marked.
pub record Walked (block_indexes : List BlockIndex) (f turn : ℕ) (found : List ℕ) (now : List BlockIndex) : Type 0 where
  pub found_is : IsFound block_indexes f turn found
  pub are : (p : ℕ) → slice_get now p ≡ option_map (marked_as (has p (take turn found))) (slice_get block_indexes p)

not_marked : (o : Option BlockIndex) → o ≡ option_map (marked_as false) o
not_marked None = refl
not_marked (Some block_index) = refl

-- before the first turn
pub walked_starts : (block_indexes : List BlockIndex) (f : ℕ) (found : List ℕ) → found ≡ f ∷ [] → Walked block_indexes f 0 found block_indexes
walked_starts block_indexes f found e = rw e (record { found_is = refl; are = λ p. not_marked (slice_get block_indexes p) })

count_there : (xs : List ℕ) (i d : ℕ) → i < length xs → 0 < count (get_or xs i d) xs
count_there [] i d lt = absurd (omega (arith, lt))
count_there (x ∷ xs) zero d lt = rw (eq_same x x refl) (omega arith)
count_there (x ∷ xs) (suc i) d lt = omega (arith, count_there xs i d (omega (arith, lt)))

pub walked_within : (block_indexes : List BlockIndex) (f turn place : ℕ) (found : List ℕ) (now : List BlockIndex) → IsTree block_indexes → 0 < f → f < length block_indexes → Walked block_indexes f turn found now → turn < length found → place ≡ get_or found turn place
    → place < length block_indexes
walked_within block_indexes f turn place found now is some low walked lt read =
    elim (placed block_indexes place is) [
      | inl w ↦ w.1
      | inr out ↦
          let there : 0 < count place found = subst (λ (q : ℕ). 0 < count q found) (sym read) (count_there found turn place lt) in
          let none = count_unfound block_indexes f turn place found walked.found_is out ∙ ap (λ (b : Bool). cond b 1 0) (out f some (omega (arith, low, above_long block_indexes is))) in
          absurd (omega (arith, there, none))
    ]

taken : (found more : List ℕ) (turn place : ℕ) → turn < length found → place ≡ get_or found turn place → take (turn + 1) (found ++ more) ≡ take turn found ++ place ∷ []
taken found more turn place lt read =
    take-append-le (turn + 1) found more (omega (arith, lt)) ∙ take_more found turn place lt ∙ ap (λ (q : ℕ). take turn found ++ q ∷ []) (sym read)

found_goes : (block_indexes : List BlockIndex) (f turn place : ℕ) (found : List ℕ) → IsFound block_indexes f turn found → turn < length found → place ≡ get_or found turn place
    → found ++ above_at (above_first block_indexes) place ≡ f ∷ flat_map (above_at (above_first block_indexes)) (take turn found ++ place ∷ [])
found_goes block_indexes f turn place found found_is lt read =
    let on = above_at (above_first block_indexes) in
    ap (λ (ps : List ℕ). ps ++ on place) found_is ∙ flat_map_more on (f ∷ []) (take turn found) place

-- one turn: the place is that of a block index, so many turns are left, and there is room for what is found
pub turned : (block_indexes : List BlockIndex) (f turn place : ℕ) (found : List ℕ) (now : List BlockIndex) (target : BlockIndex) → IsTree block_indexes → 0 < f → slice_get block_indexes f ≡ Some target → Walked block_indexes f turn found now → turn < length found
    → place ≡ get_or found turn place → (place < length now) × (turn < length block_indexes) × (length found + length (above_at (above_first block_indexes) place) ≤ length block_indexes)
turned block_indexes f turn place found now target is some at walked lt read =
    let on = above_at (above_first block_indexes) in
    let low : f < length block_indexes = slice_get_within block_indexes f target at in
    let there = index_at block_indexes place (walked_within block_indexes f turn place found now is some low walked lt read) in
    let few = few_found block_indexes f turn turn found is some low walked.found_is in
    let more = few_found block_indexes f turn (turn + 1) found is some low walked.found_is in
    let took : take (turn + 1) found ≡ take turn found ++ place ∷ [] = take_more found turn place lt ∙ ap (λ (q : ℕ). take turn found ++ q ∷ []) (sym read) in (
      slice_get_within now place (marked_as (has place (take turn found)) there.0) (walked.are place ∙ ap (option_map (marked_as (has place (take turn found)))) there.1),
      omega (arith, lt, few, ap length walked.found_is),
      omega (arith, more, ap (λ (ps : List ℕ). length (flat_map on ps)) took, ap length (found_goes block_indexes f turn place found walked.found_is lt read), length-append found (on place)),
    )

has_more : (p place : ℕ) (xs : List ℕ) (b : Bool) → nat_eq p place ≡ b → has p (xs ++ place ∷ []) ≡ cond b true (has p xs)
has_more p place xs true w =
    let one : count p (xs ++ place ∷ []) ≡ count p xs + 1 = count_append p xs (place ∷ []) ∙ ap (λ (b : Bool). count p xs + (cond b 1 0 + 0)) w in
    let some : nat_lt 0 (count p xs + 1) ≡ true = grind (arith, nat_tests) in
    ap (nat_lt 0) one ∙ some
has_more p place xs false w =
    let none : count p xs + 0 ≡ count p xs = omega arith in
    ap (nat_lt 0) (count_append p xs (place ∷ []) ∙ ap (λ (b : Bool). count p xs + (cond b 1 0 + 0)) w ∙ none)

mark_twice : (b : Bool) (block_index : BlockIndex) → marked_as true (marked_as b block_index) ≡ marked_as true block_index
mark_twice true block_index = refl
mark_twice false block_index = refl

-- the block indexes once one more is marked
marked_more : (block_indexes now : List BlockIndex) (place p : ℕ) (xs : List ℕ) (read there : BlockIndex) → slice_get block_indexes place ≡ Some there → ((q : ℕ) → slice_get now q ≡ option_map (marked_as (has q xs)) (slice_get block_indexes q))
    → slice_get (set now place (marked_as true (get_or now place read))) p ≡ option_map (marked_as (has p (xs ++ place ∷ []))) (slice_get block_indexes p)
marked_more block_indexes now place p xs read there at are =
    let marked = marked_as (has place xs) there in
    let now_is : slice_get now place ≡ Some marked = are place ∙ ap (option_map (marked_as (has place xs))) at in
    let put : marked_as true (get_or now place read) ≡ marked_as true there = ap (marked_as true) (get_or_from_slice_get now place marked read now_is) ∙ mark_twice (has place xs) there in
    get_set now place (marked_as true (get_or now place read)) p (slice_get_within now place marked now_is)
    ∙ elim (cases_Bool (nat_eq p place)) [
      | inl w ↦ rw (w, has_more p place xs true w) (ap Some put ∙ sym (ap (option_map (marked_as true)) (ap (slice_get block_indexes) (eq_true p place w) ∙ at)))
      | inr w ↦ rw (w, has_more p place xs false w) (are p)
    ]

pub walked_goes : (block_indexes : List BlockIndex) (f turn place : ℕ) (found more : List ℕ) (now : List BlockIndex) (read target : BlockIndex) → IsTree block_indexes → 0 < f → slice_get block_indexes f ≡ Some target → Walked block_indexes f turn found now
    → turn < length found → place ≡ get_or found turn place → more ≡ found ++ above_at (above_first block_indexes) place → Walked block_indexes f (turn + 1) more (set now place (marked_as true (get_or now place read)))
walked_goes block_indexes f turn place found more now read target is some first walked lt at pushed =
    let there = index_at block_indexes place (walked_within block_indexes f turn place found now is some (slice_get_within block_indexes f target first) walked lt at) in
    let took : take (turn + 1) more ≡ take turn found ++ place ∷ [] = ap (take (turn + 1)) pushed ∙ taken found (above_at (above_first block_indexes) place) turn place lt at in
    record {
      found_is = pushed ∙ found_goes block_indexes f turn place found walked.found_is lt at ∙ ap (λ (ps : List ℕ). f ∷ flat_map (above_at (above_first block_indexes)) ps) (sym took);
      are = λ p. marked_more block_indexes now place p (take turn found) read there.0 there.1 walked.are ∙ ap (λ (ps : List ℕ). option_map (marked_as (has p ps)) (slice_get block_indexes p)) (sym took);
    }

-- ---- its end

has_cond : (here kept : Bool) (n : ℕ) → nat_lt 0 (cond here 1 0 + cond kept n 0) ≡ here || (kept && nat_lt 0 n)
has_cond true kept n = grind (arith, nat_tests)
has_cond false true n = ap (nat_lt 0) (let it : 0 + n ≡ n = omega arith in it)
has_cond false false n = refl

-- a kept block index stands at a place if its hash is that of the one there
same_place : (block_indexes : List BlockIndex) (p f : ℕ) (block_index target : BlockIndex) → IsTree block_indexes → slice_get block_indexes p ≡ Some block_index → is_some block_index.kept ≡ true → slice_get block_indexes f ≡ Some target → is_some target.kept ≡ true
    → nat_eq p f ≡ same block_index.hash target.hash
same_place block_indexes p f block_index target is at kept there block =
    elim (cases_Bool (nat_eq p f)) [
      | inl w ↦
          let one : block_index ≡ target = same_Some block_index target (sym at ∙ ap (slice_get block_indexes) (eq_true p f w) ∙ there) in
          w ∙ sym (ap (λ (n : BlockIndex). same n.hash target.hash) one ∙ same-refl target.hash)
      | inr w ↦
          elim (cases_Bool (same block_index.hash target.hash)) [
            | inl s ↦
                let both : Some p ≡ Some f = sym (kept_place block_indexes block_index p is at kept) ∙ ap (place_of (tree_of block_indexes)) (same-true block_index.hash target.hash s) ∙ kept_place block_indexes target f is there block in
                absurd (false≢true (sym w ∙ eq_same p f (same_Some p f both)))
            | inr s ↦ w ∙ sym s
          ]
    ]

found_tells : (block_indexes : List BlockIndex) (f turn p : ℕ) (found : List ℕ) (block_index target : BlockIndex) → IsTree block_indexes → IsFound block_indexes f turn found → take turn found ≡ found → slice_get block_indexes f ≡ Some target → is_some target.kept ≡ true
    → 0 < p → slice_get block_indexes p ≡ Some block_index → has p found ≡ is_some block_index.kept && (same block_index.hash target.hash || has block_index.parent found)
found_tells block_indexes f turn p found block_index target is found_is all there block some at =
    ap (nat_lt 0) (count_found block_indexes f turn p found block_index is found_is some at ∙ ap (λ (ps : List ℕ). cond (nat_eq p f) 1 0 + cond (is_some block_index.kept) (count block_index.parent ps) 0) all)
    ∙ has_cond (nat_eq p f) (is_some block_index.kept) (count block_index.parent found)
    ∙ elim (cases_Bool (is_some block_index.kept)) [
      | inl k ↦ rw (k, same_place block_indexes p f block_index target is at k there block) refl
      | inr k ↦
          elim (cases_Bool (nat_eq p f)) [
            | inl w ↦
                let one : target ≡ block_index = same_Some target block_index (sym there ∙ ap (slice_get block_indexes) (sym (eq_true p f w)) ∙ at) in
                absurd (false≢true (sym k ∙ ap (λ (n : BlockIndex). is_some n.kept) (sym one) ∙ block))
            | inr w ↦ rw (k, w) refl
          ]
    ]

first_unfound : (block_indexes : List BlockIndex) (f turn : ℕ) (found : List ℕ) → IsFound block_indexes f turn found → 0 < f → has 0 found ≡ false
first_unfound block_indexes f turn found found_is some =
    ap (nat_lt 0) (count_unfound block_indexes f turn 0 found found_is (λ y up _. eq_less 0 y up) ∙ ap (λ (b : Bool). cond b 1 0) (eq_less 0 f some))

marked_all : (block_indexes now : List BlockIndex) (lowest : Hash256) (m : ℕ → Bool) → IsTree block_indexes → m 0 ≡ false
    → ((p : ℕ) (block_index : BlockIndex) → 0 < p → slice_get block_indexes p ≡ Some block_index → m p ≡ is_some block_index.kept && (same block_index.hash lowest || m block_index.parent))
    → ((p : ℕ) → slice_get now p ≡ option_map (marked_as (m p)) (slice_get block_indexes p)) → now ≡ marked_indexes lowest block_indexes
marked_all [] now lowest m is none told are = absurd is
marked_all (first ∷ others) now lowest m is none told are =
    let whole : first ∷ reverse (reverse others) ≡ first ∷ others = ap (λ (ns : List BlockIndex). first ∷ ns) (reverse-reverse others) in
    same_each now (marked_indexes lowest (first ∷ others))
    (λ p. are p ∙ ap (λ (ns : List BlockIndex). option_map (marked_as (m p)) (slice_get ns p)) (sym whole)
    ∙ sym (each_marked first (reverse others) lowest m p is.1 (none, λ q block_index some at. told q block_index some (subst (λ (ns : List BlockIndex). slice_get ns q ≡ Some block_index) whole at))))

pub walked_ends : (block_indexes : List BlockIndex) (f turn : ℕ) (found : List ℕ) (now : List BlockIndex) (target : BlockIndex) → IsTree block_indexes → 0 < f → slice_get block_indexes f ≡ Some target → is_some target.kept ≡ true
    → Walked block_indexes f turn found now → length found ≤ turn → now ≡ marked_indexes target.hash block_indexes
walked_ends block_indexes f turn found now target is some there block walked done =
    let all : take turn found ≡ found = take_all turn found done in
    marked_all block_indexes now target.hash (λ p. has p found) is (first_unfound block_indexes f turn found walked.found_is some)
    (λ p block_index up at. found_tells block_indexes f turn p found block_index target is walked.found_is all there block up at)
    (λ p. walked.are p ∙ ap (λ (ps : List ℕ). option_map (marked_as (has p ps)) (slice_get block_indexes p)) all)
