-- The block indexes of a tree, by their hashes and by their places.
use Rattle.std.proofs.Common.{◌≡◌, ℕ, zero, suc, ◌<◌, Bool, true, false, cond, List, [], ◌∷◌, ◌++◌, length, map, get_or, Some, None, Option, refl, sym, ap, subst, ◌∙◌, inl, inr, ◌⊎◌}
use Rattle.std.specs.Prelude.{slice_get, reverse, unwrap_or, IfSome}
use Rattle.std.specs.List.{AllZip}
use Rattle.std.proofs.lemmas.List.Elements.{same_from_all_zip}
use Rattle.std.specs.Map.{lookup}
use Rattle.std.proofs.lemmas.Bool.{cases_Bool, false≢true}
use Rattle.std.proofs.lemmas.List.{reverse-append, reverse-reverse, length-reverse, length-map, map-append}
use Rattle.std.proofs.lemmas.Option.{slice_get_within, get_or_from_slice_get}
use lib.Pointwise.{bytes_decides}
use Rattle.cb_base.specs.declared.hash.Hash256.{Hash256}
use Rattle.cb_chain.specs.Marking.{BlockIndex}
use Rattle.cb_chain.specs.Entries.{Tree, block_hash, genesis_hash, same, first_entry, entry_of, height_of}
use Rattle.cb_chain.specs.Keeping.{entry_from, above_first, tree_of, place_of, IsIndex, AreIndexes, IsFirst, IsTree, IsPlaced}

-- ---- hashes

pub same-true : (a b : Hash256) → same a b ≡ true → a ≡ b
same-true a b e = ap (λ (x : List ℕ). record { 0 = x }) ((bytes_decides a.0 b.0).0 e)

pub same-refl : (a : Hash256) → same a a ≡ true
same-refl a = (bytes_decides a.0 a.0).1 refl

pub same-symm : (a b : Hash256) → same a b ≡ same b a
same-symm a b =
    elim (cases_Bool (same a b)) [
      | inl is ↦ is ∙ sym (subst (λ (x : Hash256). same x a ≡ true) (same-true a b is) (same-refl a))
      | inr isnt ↦
          elim (cases_Bool (same b a)) [
            | inl is ↦ absurd (false≢true (sym isnt ∙ subst (λ (x : Hash256). same x b ≡ true) (same-true b a is) (same-refl b)))
            | inr other ↦ isnt ∙ sym other
          ]
    ]

-- ---- lists

pub reverse_push : {A : Type 0} (xs : List A) (x : A) → reverse (xs ++ x ∷ []) ≡ x ∷ reverse xs
reverse_push xs x = reverse-append xs (x ∷ [])

pub reverse_cons : {A : Type 0} (xs : List A) (x : A) → reverse (x ∷ xs) ≡ reverse xs ++ x ∷ []
reverse_cons xs x = reverse-append (x ∷ []) xs

pub map_reverse : {A B : Type 0} (f : A → B) (xs : List A) → map f (reverse xs) ≡ reverse (map f xs)
map_reverse f [] = refl
map_reverse f (x ∷ xs) = ap (map f) (reverse_cons xs x) ∙ map-append f (reverse xs) (x ∷ []) ∙ ap (λ ys. ys ++ f x ∷ []) (map_reverse f xs) ∙ sym (reverse_cons (map f xs) (f x))

pub get_front : {A : Type 0} (xs ys : List A) (i : ℕ) (x : A) → slice_get xs i ≡ Some x → slice_get (xs ++ ys) i ≡ Some x
get_front [] ys i x e = absurd cc
get_front (y ∷ xs) ys zero x e = e
get_front (y ∷ xs) ys (suc i) x e = get_front xs ys i x e

pub get_last : {A : Type 0} (xs : List A) (x : A) → slice_get (xs ++ x ∷ []) (length xs) ≡ Some x
get_last [] x = refl
get_last (y ∷ xs) x = get_last xs x

-- ---- block indexes

-- what a test chose
pub chosen : (b : Bool) (x : ℕ) (o : Option ℕ) (p : ℕ) → cond b (Some x) o ≡ Some p → ((b ≡ true) × (x ≡ p)) ⊎ ((b ≡ false) × (o ≡ Some p))
chosen true x o p e = inl (refl, ap (λ (q : Option ℕ). unwrap_or q 0) e)
chosen false x o p e = inr (refl, e)

chose_none : (b : Bool) (x : ℕ) (o : Option ℕ) → cond b (Some x) o ≡ None → (b ≡ false) × (o ≡ None)
chose_none true x o e = absurd cc
chose_none false x o e = (refl, e)

first_is : (first : BlockIndex) → IsFirst first → first_entry ≡ entry_from first
first_is first is = rw (is.header, is.block, is.marked) refl

-- the block index at the place of a hash is that of the hash
pub record Found (block_indexes : List BlockIndex) (tree : Tree) (hash : Hash256) (place : ℕ) : Type 0 where
  pub block_index : BlockIndex
  pub at : slice_get block_indexes place ≡ Some block_index
  pub name : block_index.hash ≡ hash
  pub entry : entry_of tree hash ≡ Some (entry_from block_index)
  pub height : height_of tree hash ≡ Some block_index.height

pub found_above : (first : BlockIndex) (above : List BlockIndex) (hash : Hash256) (place : ℕ) → IsFirst first → AreIndexes above → place_of (map entry_from above) hash ≡ Some place
    → Found (first ∷ reverse above) (map entry_from above) hash place
found_above first [] hash place is are e =
    elim (chosen (same hash genesis_hash) 0 None place e) [
      | inl w ↦ record {
        block_index = first;
        at = subst (λ (p : ℕ). slice_get (first ∷ []) p ≡ Some first) w.1 refl;
        name = is.hash ∙ sym (same-true hash genesis_hash w.0);
        entry = rw w.0 (ap Some (first_is first is));
        height = rw w.0 (ap Some (sym is.height));
      }
      | inr w ↦ absurd (let none : None ≡ Some place = w.1 in cc)
    ]
found_above first (block_index ∷ older) hash place is are e =
    elim (chosen (same hash (block_hash block_index.header)) (suc (length (map entry_from older))) (place_of (map entry_from older) hash) place e) [
      | inl w ↦
          let long : length (map entry_from older) ≡ length (reverse older) = length-map older entry_from ∙ sym (length-reverse older) in
          let last : slice_get (reverse older ++ block_index ∷ []) (length (reverse older)) ≡ Some block_index = get_last (reverse older) block_index in
          let here : slice_get (reverse (block_index ∷ older)) (length (map entry_from older)) ≡ Some block_index = rw (reverse_cons older block_index, long) last in
          record {
            block_index = block_index;
            at = subst (λ (p : ℕ). slice_get (first ∷ reverse (block_index ∷ older)) p ≡ Some block_index) w.1 here;
            name = are.0.hash ∙ sym (same-true hash (block_hash block_index.header) w.0);
            entry = rw w.0 refl;
            height = rw w.0 are.0.height;
          }
      | inr w ↦
          let found = found_above first older hash place is are.1 w.1 in
          record {
            block_index = found.block_index;
            at = subst (λ (ns : List BlockIndex). slice_get (first ∷ ns) place ≡ Some found.block_index) (sym (reverse_cons older block_index)) (get_front (first ∷ reverse older) (block_index ∷ []) place found.block_index found.at);
            name = found.name;
            entry = rw w.0 found.entry;
            height = rw w.0 found.height;
          }
    ]

unfound_above : (above : List BlockIndex) (hash : Hash256) → place_of (map entry_from above) hash ≡ None → (entry_of (map entry_from above) hash ≡ None) × (height_of (map entry_from above) hash ≡ None)
unfound_above [] hash e = let w = chose_none (same hash genesis_hash) 0 None e in (rw w.0 refl, rw w.0 refl)
unfound_above (block_index ∷ older) hash e =
    let w = chose_none (same hash (block_hash block_index.header)) (suc (length (map entry_from older))) (place_of (map entry_from older) hash) e in
    let u = unfound_above older hash w.1 in
    (rw w.0 u.0, rw w.0 u.1)

pub found : (block_indexes : List BlockIndex) (hash : Hash256) (place : ℕ) → IsTree block_indexes → place_of (tree_of block_indexes) hash ≡ Some place → Found block_indexes (tree_of block_indexes) hash place
found [] hash place is e = absurd is
found (first ∷ others) hash place is e =
    subst (λ (ns : List BlockIndex). Found (first ∷ ns) (map entry_from (reverse others)) hash place) (reverse-reverse others) (found_above first (reverse others) hash place is.0 is.1 e)

pub unfound : (block_indexes : List BlockIndex) (hash : Hash256) → place_of (tree_of block_indexes) hash ≡ None → (entry_of (tree_of block_indexes) hash ≡ None) × (height_of (tree_of block_indexes) hash ≡ None)
unfound block_indexes hash e = unfound_above (above_first block_indexes) hash e

pub place_within : (block_indexes : List BlockIndex) (hash : Hash256) (o : Option ℕ) → IsTree block_indexes → o ≡ place_of (tree_of block_indexes) hash → IfSome o (λ place. place < length block_indexes)
place_within block_indexes hash None is e = tt
place_within block_indexes hash (Some place) is e =
    let block_index = found block_indexes hash place is (sym e) in
    slice_get_within block_indexes place block_index.block_index block_index.at

-- the block index that was read at the place of a hash
pub found_read : (block_indexes : List BlockIndex) (hash : Hash256) (place : ℕ) (block_index : BlockIndex) → IsTree block_indexes → Some place ≡ place_of (tree_of block_indexes) hash → block_index ≡ get_or block_indexes place block_index
    → (entry_of (tree_of block_indexes) hash ≡ Some (entry_from block_index)) × (height_of (tree_of block_indexes) hash ≡ Some block_index.height)
found_read block_indexes hash place block_index is e read =
    let f = found block_indexes hash place is (sym e) in
    let one : block_index ≡ f.block_index = read ∙ get_or_from_slice_get block_indexes place f.block_index block_index f.at in
    (f.entry ∙ ap (λ (n : BlockIndex). Some (entry_from n)) (sym one), f.height ∙ ap (λ (n : BlockIndex). Some n.height) (sym one))

-- ---- one block index more

pub tree_grown : (block_indexes : List BlockIndex) (block_index : BlockIndex) → IsTree block_indexes → tree_of (block_indexes ++ block_index ∷ []) ≡ entry_from block_index ∷ tree_of block_indexes
tree_grown [] block_index is = absurd is
tree_grown (first ∷ others) block_index is = ap (map entry_from) (reverse_push others block_index)

pub is_grown : (block_indexes : List BlockIndex) (block_index : BlockIndex) → IsTree block_indexes → IsIndex block_index (tree_of block_indexes) → IsTree (block_indexes ++ block_index ∷ [])
is_grown [] block_index is one = absurd is
is_grown (first ∷ others) block_index is one = (is.0, subst AreIndexes (sym (reverse_push others block_index)) (one, is.1))

pub length_tree : (block_indexes : List BlockIndex) → IsTree block_indexes → length block_indexes ≡ suc (length (tree_of block_indexes))
length_tree [] is = absurd is
length_tree (first ∷ others) is = ap suc (sym (length-map (reverse others) entry_from ∙ length-reverse others))

pub placed_more : (block_indexes : List BlockIndex) (block_index : BlockIndex) (es fs : List (Hash256 × ℕ)) (place : ℕ) → IsPlaced block_indexes es → IsIndex block_index (tree_of block_indexes) → place ≡ length block_indexes
    → ((q : Hash256) → lookup (same q) fs ≡ cond (same block_index.hash q) (Some place) (lookup (same q) es)) → IsPlaced (block_indexes ++ block_index ∷ []) fs
placed_more block_indexes block_index es fs place is one at updates =
    record {
      tree = is_grown block_indexes block_index is.tree one;
      places = λ q.
          let flipped : same block_index.hash q ≡ same q (block_hash block_index.header) = same-symm block_index.hash q ∙ ap (same q) one.hash in
          let long : place ≡ suc (length (tree_of block_indexes)) = at ∙ length_tree block_indexes is.tree in
          updates q ∙ ap (cond (same block_index.hash q) (Some place)) (is.places q) ∙ ap (λ (p : ℕ). cond (same block_index.hash q) (Some p) (place_of (tree_of block_indexes) q)) long
          ∙ ap (λ (b : Bool). cond b (Some (suc (length (tree_of block_indexes)))) (place_of (tree_of block_indexes) q)) flipped
          ∙ ap (λ (t : Tree). place_of t q) (sym (tree_grown block_indexes block_index is.tree));
    }

-- the first block index alone
pub placed_first : (first : BlockIndex) (fs : List (Hash256 × ℕ)) → IsFirst first → ((q : Hash256) → lookup (same q) fs ≡ cond (same first.hash q) (Some 0) None) → IsPlaced (first ∷ []) fs
placed_first first fs is updates =
    record {
      tree = (is, tt);
      places = λ q. updates q ∙ ap (λ (b : Bool). cond b (Some 0) None) (same-symm first.hash q ∙ ap (same q) is.hash);
    }

-- the same places in another order
pub placed_like : (block_indexes : List BlockIndex) (es fs : List (Hash256 × ℕ)) → IsPlaced block_indexes es → ((q : Hash256) → lookup (same q) fs ≡ lookup (same q) es) → IsPlaced block_indexes fs
placed_like block_indexes es fs is like = record { tree = is.tree; places = λ q. like q ∙ is.places q }

pub entries_like : (es fs : List (Hash256 × ℕ)) → AllZip (λ p q. (q.0 ≡ p.0) × (q.1 ≡ p.1)) es fs → fs ≡ es
entries_like es fs like = same_from_all_zip (λ p q. (q.0 ≡ p.0) × (q.1 ≡ p.1)) es fs like (λ p q e. ap (λ (h : Hash256). (h, q.1)) e.0 ∙ ap (λ (n : ℕ). (p.0, n)) e.1)
