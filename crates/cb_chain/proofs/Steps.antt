-- The steps of a way: their block indexes, and the branch that they make.
use Rattle.std.proofs.Common.{◌≡◌, ℕ, zero, suc, ◌<◌, true, false, List, [], ◌∷◌, ◌++◌, length, map, drop, Some, refl, sym, ap, subst, ◌∙◌, arith, inl, inr}
use Rattle.std.specs.Prelude.{reverse, slice_get, is_some}
use Rattle.std.specs.List.{AllByRecursion}
use Rattle.std.proofs.lemmas.Bool.{cases_Bool}
use Rattle.std.proofs.lemmas.List.{reverse-reverse, length-reverse, length-map}
use Rattle.cb_base.specs.declared.hash.Hash256.{Hash256}
use Rattle.cb_block.specs.declared.header.Header.{Header}
use Rattle.cb_block.specs.Genesis.{genesis_header}
use Rattle.cb_chain.specs.Marking.{BlockIndex}
use Rattle.cb_chain.specs.Entries.{Entry, Tree, block_hash, same, height_of, is_kept}
use Rattle.cb_chain.specs.Best.{branch}
use Rattle.cb_chain.specs.Keeping.{AreIndexes, IsTree, Step, climb, entry_from, place_of, tree_of, way}
use Rattle.cb_chain.proofs.BlockIndexes.{get_front, get_last, map_reverse, reverse_cons, reverse_push}
use Rattle.cb_chain.proofs.PathsDown.{branch_way, height_way}

-- ---- what holds of each

pub all_more : {A : Type 0} (P Q : A → Type 0) (xs : List A) → ((x : A) → P x → Q x) → AllByRecursion P xs → AllByRecursion Q xs
all_more P Q [] f h = tt
all_more P Q (x ∷ xs) f h = (f x h.0, all_more P Q xs f h.1)

pub all_join : {A : Type 0} (P : A → Type 0) (xs ys : List A) → AllByRecursion P xs → AllByRecursion P ys → AllByRecursion P (xs ++ ys)
all_join P [] ys h k = k
all_join P (x ∷ xs) ys h k = (h.0, all_join P xs ys h.1 k)

pub all_reverse : {A : Type 0} (P : A → Type 0) (xs : List A) → AllByRecursion P xs → AllByRecursion P (reverse xs)
all_reverse P [] h = tt
all_reverse P (x ∷ xs) h = subst (AllByRecursion P) (sym (reverse_cons xs x)) (all_join P (reverse xs) (x ∷ []) (all_reverse P xs h.1) (h.0, tt))

pub all_drop : {A : Type 0} (P : A → Type 0) (n : ℕ) (xs : List A) → AllByRecursion P xs → AllByRecursion P (drop n xs)
all_drop P zero xs h = h
all_drop P (suc n) [] h = tt
all_drop P (suc n) (x ∷ xs) h = all_drop P n xs h.1

pub all_middle : {A : Type 0} (P : A → Type 0) (front : List A) (x : A) (back : List A) → AllByRecursion P (front ++ x ∷ back) → P x
all_middle P [] x back h = h.0
all_middle P (y ∷ front) x back h = all_middle P front x back h.1

pub same_map : {A B : Type 0} (f g : A → B) (xs : List A) → AllByRecursion (λ x. f x ≡ g x) xs → map f xs ≡ map g xs
same_map f g [] h = refl
same_map f g (x ∷ xs) h = ap (λ y. y ∷ map f xs) h.0 ∙ ap (λ ys. g x ∷ ys) (same_map f g xs h.1)

-- ---- their block indexes

-- the block index at the step's place is its entry's
pub record Stands (block_indexes : List BlockIndex) (step : Step) : Type 0 where
  pub block_index : BlockIndex
  pub at : slice_get block_indexes step.place ≡ Some block_index
  pub entry : entry_from block_index ≡ step.entry
  pub hash : block_index.hash ≡ block_hash step.entry.header
  pub low : 0 < step.place

stands_more : (block_indexes : List BlockIndex) (block_index : BlockIndex) (step : Step) → Stands block_indexes step → Stands (block_indexes ++ block_index ∷ []) step
stands_more block_indexes block_index step h = record { block_index = h.block_index; at = get_front block_indexes (block_index ∷ []) step.place h.block_index h.at; entry = h.entry; hash = h.hash; low = h.low }

stand_above : (first : BlockIndex) (above : List BlockIndex) (hash : Hash256) → AreIndexes above → AllByRecursion (Stands (first ∷ reverse above)) (way (map entry_from above) hash)
unfolding way
stand_above first [] hash are = tt
stand_above first (block_index ∷ older) hash are =
    let more : (step : Step) → Stands (first ∷ reverse older) step → Stands (first ∷ reverse (block_index ∷ older)) step =
    λ step h. subst (λ (ns : List BlockIndex). Stands (first ∷ ns) step) (sym (reverse_cons older block_index)) (stands_more (first ∷ reverse older) block_index step h) in
    let long : length (map entry_from older) ≡ length (reverse older) = length-map older entry_from ∙ sym (length-reverse older) in
    let last : slice_get (reverse older ++ block_index ∷ []) (length (reverse older)) ≡ Some block_index = get_last (reverse older) block_index in
    let here : slice_get (reverse (block_index ∷ older)) (length (map entry_from older)) ≡ Some block_index = rw (reverse_cons older block_index, long) last in
    elim (cases_Bool (same hash (block_hash block_index.header))) [
      | inl is ↦
          rw is (
            record { block_index = block_index; at = here; entry = refl; hash = are.0.hash; low = omega arith },
            all_more (Stands (first ∷ reverse older)) (Stands (first ∷ reverse (block_index ∷ older))) (way (map entry_from older) block_index.header.prev) more (stand_above first older block_index.header.prev are.1),
          )
      | inr isnt ↦
          rw isnt (all_more (Stands (first ∷ reverse older)) (Stands (first ∷ reverse (block_index ∷ older))) (way (map entry_from older) hash) more (stand_above first older hash are.1))
    ]

-- the block indexes of a way's steps
pub steps_stand : (block_indexes : List BlockIndex) (hash : Hash256) → IsTree block_indexes → AllByRecursion (Stands block_indexes) (climb (tree_of block_indexes) hash)
steps_stand [] hash is = absurd is
steps_stand (first ∷ others) hash is =
    all_reverse (Stands (first ∷ others)) (way (map entry_from (reverse others)) hash)
    (subst (λ (ns : List BlockIndex). AllByRecursion (Stands (first ∷ ns)) (way (map entry_from (reverse others)) hash)) (reverse-reverse others) (stand_above first (reverse others) hash is.1))

-- ---- a kept block's way is kept

kept_here : (entry : Entry) (older : Tree) (hash : Hash256) → same hash (block_hash entry.header) ≡ true → is_kept (entry ∷ older) hash ≡ true → is_some entry.block ≡ true
kept_here entry older hash is kept = rw is at kept

kept_below : (entry : Entry) (older : Tree) (hash : Hash256) → same hash (block_hash entry.header) ≡ false → is_kept (entry ∷ older) hash ≡ true → is_kept older hash ≡ true
kept_below entry older hash isnt kept = rw isnt at kept

kept_above : (above : List BlockIndex) (hash : Hash256) → AreIndexes above → is_kept (map entry_from above) hash ≡ true → AllByRecursion (λ (s : Step). is_some s.entry.block ≡ true) (way (map entry_from above) hash)
unfolding way
kept_above [] hash are kept = tt
kept_above (block_index ∷ older) hash are kept =
    elim (cases_Bool (same hash (block_hash block_index.header))) [
      | inl is ↦
          let here : is_some block_index.kept ≡ true = kept_here (entry_from block_index) (map entry_from older) hash is kept in
          rw is (here, kept_above older block_index.header.prev are.1 (are.0.under here))
      | inr isnt ↦ rw isnt (kept_above older hash are.1 (kept_below (entry_from block_index) (map entry_from older) hash isnt kept))
    ]

-- ---- the branch of a known hash

pub branch_climb : (block_indexes : List BlockIndex) (hash : Hash256) (p : ℕ) → IsTree block_indexes → place_of (tree_of block_indexes) hash ≡ Some p
    → reverse (branch (tree_of block_indexes) hash) ≡ genesis_header ∷ map (λ (s : Step). s.entry.header) (climb (tree_of block_indexes) hash)
branch_climb block_indexes hash p is e =
    let name : Step → Header = λ s. s.entry.header in
    let down = way (tree_of block_indexes) hash in
    ap reverse (branch_way block_indexes hash p is e) ∙ reverse_push (map name down) genesis_header ∙ ap (λ (hs : List Header). genesis_header ∷ hs) (sym (map_reverse name down))

pub height_climb : (block_indexes : List BlockIndex) (hash : Hash256) (p : ℕ) → IsTree block_indexes → place_of (tree_of block_indexes) hash ≡ Some p → height_of (tree_of block_indexes) hash ≡ Some (length (climb (tree_of block_indexes) hash))
height_climb block_indexes hash p is e = height_way block_indexes hash p is e ∙ ap Some (sym (length-reverse (way (tree_of block_indexes) hash)))
