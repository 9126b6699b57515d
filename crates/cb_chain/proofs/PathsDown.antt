-- The way from a known hash down to the first block, by the block indexes that stand on it.
use Rattle.std.proofs.Common.{◌≡◌, ℕ, zero, suc, ◌+◌, ◌<◌, ◌≤◌, Bool, true, false, cond, ltb, List, [], ◌∷◌, ◌++◌, length, get_or, map, take, Some, None, Option, refl, sym, ap, subst, ◌∙◌, arith, inl, inr, length-append}
use Rattle.std.specs.Prelude.{slice_get, option_map, reverse, is_some, is_ok, ◌&&◌, Ok, Err, Result}
use Rattle.std.proofs.lemmas.Bool.{and_parts, cases_Bool, cases_eq, cases_lt, false≢true, ltb-true}
use Rattle.std.proofs.lemmas.List.{reverse-append, reverse-reverse, length-reverse, length-map, map-append, take_at}
use Rattle.std.proofs.lemmas.Option.{same_Some, slice_get_past, slice_get_read, slice_get_within}
use Rattle.std.specs.Option.{option_map_or}
use Rattle.cb_base.specs.declared.hash.Hash256.{Hash256}
use Rattle.cb_block.specs.declared.block.Block.{Block}
use Rattle.cb_block.specs.declared.header.Header.{Header}
use Rattle.cb_block.specs.Genesis.{genesis_header}
use Rattle.cb_ledger.specs.Unspent.{Unspent}
use Rattle.cb_chain.specs.Marking.{BlockIndex}
use Rattle.cb_chain.specs.Entries.{Entry, Tree, block_hash, genesis_hash, same, height_of, is_kept}
use Rattle.cb_chain.specs.Best.{Stop, active, best, branch, is_higher, spend_block, then_spend, unspent_after}
use Rattle.cb_chain.specs.Following.{stands_at}
use Rattle.cb_chain.specs.Keeping.{Step, entry_from, tree_of, place_of, way, climb, active_places, IsIndex, AreIndexes, IsFirst, IsTree}
use Rattle.cb_chain.proofs.BlockIndexes.{same-true, same-refl, reverse_cons, get_front, map_reverse, chosen, Found, found}
use Rattle.cb_chain.proofs.Tips.{known_best}

-- ---- lists

pub get_end : {A : Type 0} (xs : List A) (x : A) (i : ℕ) → length xs ≡ i → slice_get (xs ++ x ∷ []) i ≡ Some x
get_end [] x zero e = refl
get_end [] x (suc i) e = absurd (omega arith)
get_end (y ∷ xs) x zero e = absurd (omega arith)
get_end (y ∷ xs) x (suc i) e = get_end xs x i (omega arith)

get_less : {A : Type 0} (xs ys : List A) (i : ℕ) (x : A) → i < length xs → slice_get (xs ++ ys) i ≡ Some x → slice_get xs i ≡ Some x
get_less [] ys i x lt e = absurd (omega arith)
get_less (y ∷ xs) ys zero x lt e = e
get_less (y ∷ xs) ys (suc i) x lt e = get_less xs ys i x (omega arith) e

-- ---- the block indexes of a way

abbrev pub header_of : Step → Header
header_of step = step.entry.header

abbrev pub place_at : Step → ℕ
place_at step = step.place

-- the headers of a way, and the first block's below them
abbrev pub line_of : List Step → List Header
line_of steps = map header_of steps ++ genesis_header ∷ []

-- the block of a place is kept
pub record IsKeptAt (block_indexes : List BlockIndex) (place : ℕ) : Type 0 where
  pub block_index : BlockIndex
  pub at : slice_get block_indexes place ≡ Some block_index
  pub kept : is_some block_index.kept ≡ true

-- A step's block index, so many steps above the first one. It came after its parent, and where its block is kept the
-- parent's is.
pub record Stands (block_indexes : List BlockIndex) (spot : ℕ) (step : Step) (level : ℕ) : Type 0 where
  pub block_index : BlockIndex
  pub at : slice_get block_indexes spot ≡ Some block_index
  pub place : step.place ≡ spot
  pub entry : step.entry ≡ entry_from block_index
  pub height : block_index.height ≡ level
  pub hash : block_index.hash ≡ block_hash block_index.header
  pub low : block_index.height ≤ 1000000000
  pub parent : block_index.parent < spot
  pub under : is_some block_index.kept ≡ true → IsKeptAt block_indexes block_index.parent

pub record IsBottom (block_indexes : List BlockIndex) (spot : ℕ) : Type 0 where
  pub zero : spot ≡ 0
  pub block_index : BlockIndex
  pub at : slice_get block_indexes spot ≡ Some block_index
  pub first : IsFirst block_index

-- From the block index at a place the steps lead down to the first block index, each to its parent.
abbrev pub Leads : List BlockIndex → ℕ → List Step → Type 0
Leads block_indexes spot [] = IsBottom block_indexes spot
Leads block_indexes spot (step ∷ steps) = (top : Stands block_indexes spot step (suc (length steps))) × Leads block_indexes top.block_index.parent steps

kept_more : (block_indexes more : List BlockIndex) (place : ℕ) → IsKeptAt block_indexes place → IsKeptAt (block_indexes ++ more) place
kept_more block_indexes more place k = record { block_index = k.block_index; at = get_front block_indexes more place k.block_index k.at; kept = k.kept }

Leads-more : (block_indexes more : List BlockIndex) (place : ℕ) (steps : List Step) → Leads block_indexes place steps → Leads (block_indexes ++ more) place steps
Leads-more block_indexes more place [] w = record { zero = w.zero; block_index = w.block_index; at = get_front block_indexes more place w.block_index w.at; first = w.first }
Leads-more block_indexes more place (step ∷ steps) w =
    let t = w.0 in (
      record {
        block_index = t.block_index;
        at = get_front block_indexes more place t.block_index t.at;
        place = t.place;
        entry = t.entry;
        height = t.height;
        hash = t.hash;
        low = t.low;
        parent = t.parent;
        under = λ k. kept_more block_indexes more t.block_index.parent (t.under k);
      },
      Leads-more block_indexes more t.block_index.parent steps w.1,
    )

-- the block index where a way begins
pub record Named (block_indexes : List BlockIndex) (place : ℕ) (steps : List Step) : Type 0 where
  pub block_index : BlockIndex
  pub at : slice_get block_indexes place ≡ Some block_index
  pub height : block_index.height ≡ length steps
  pub hash : block_index.hash ≡ block_hash block_index.header
  pub low : block_index.height ≤ 1000000000

pub named : (block_indexes : List BlockIndex) (place : ℕ) (steps : List Step) → Leads block_indexes place steps → Named block_indexes place steps
unfolding genesis_hash
named block_indexes place [] w =
    record {
      block_index = w.block_index;
      at = w.at;
      height = w.first.height;
      hash = w.first.hash ∙ ap block_hash (sym w.first.header);
      low = omega (arith, w.first.height);
    }
named block_indexes place (step ∷ steps) w = record { block_index = w.0.block_index; at = w.0.at; height = w.0.height; hash = w.0.hash; low = w.0.low }

same_step : (one other : Step) → one.place ≡ other.place → one.entry ≡ other.entry → one ≡ other
same_step one other p e =
    let first : one ≡ record { place = other.place; entry = one.entry } = ap (λ (q : ℕ). record { place = q; entry = one.entry }) p in
    first ∙ ap (λ (x : Entry). record { place = other.place; entry = x }) e

-- one way alone leads down from a place
pub Leads-unique : (block_indexes : List BlockIndex) (place : ℕ) (steps others : List Step) → Leads block_indexes place steps → Leads block_indexes place others → steps ≡ others
Leads-unique block_indexes place [] [] w v = refl
Leads-unique block_indexes place [] (other ∷ others) w v = absurd (omega (arith, w.zero, v.0.parent))
Leads-unique block_indexes place (step ∷ steps) [] w v = absurd (omega (arith, v.zero, w.0.parent))
Leads-unique block_indexes place (step ∷ steps) (other ∷ others) w v =
    let one : w.0.block_index ≡ v.0.block_index = same_Some w.0.block_index v.0.block_index (sym w.0.at ∙ v.0.at) in
    let places : step.place ≡ other.place = w.0.place ∙ sym v.0.place in
    let entries : step.entry ≡ other.entry = w.0.entry ∙ ap entry_from one ∙ sym v.0.entry in
    let parents : v.0.block_index.parent ≡ w.0.block_index.parent = ap (λ (n : BlockIndex). n.parent) (sym one) in
    let rest : steps ≡ others = Leads-unique block_indexes w.0.block_index.parent steps others w.1 (subst (λ (p : ℕ). Leads block_indexes p others) parents v.1) in
    ap (λ (s : Step). s ∷ steps) (same_step step other places entries) ∙ ap (λ (ss : List Step). other ∷ ss) rest

-- ---- the way from a known hash

tree_from : (first : BlockIndex) (above : List BlockIndex) → IsFirst first → AreIndexes above → IsTree (first ∷ reverse above)
tree_from first above is are = (is, subst AreIndexes (sym (reverse-reverse above)) are)

found_in : (first : BlockIndex) (above : List BlockIndex) (hash : Hash256) (place : ℕ) → IsFirst first → AreIndexes above → place_of (map entry_from above) hash ≡ Some place
    → Found (first ∷ reverse above) (map entry_from above) hash place
found_in first above hash place is are e =
    let same_tree : tree_of (first ∷ reverse above) ≡ map entry_from above = ap (map entry_from) (reverse-reverse above) in
    subst (λ (t : Tree). Found (first ∷ reverse above) t hash place) same_tree
    (found (first ∷ reverse above) hash place (tree_from first above is are) (subst (λ (t : Tree). place_of t hash ≡ Some place) (sym same_tree) e))

kept_in : (first : BlockIndex) (above : List BlockIndex) (hash : Hash256) (place : ℕ) → IsFirst first → AreIndexes above → place_of (map entry_from above) hash ≡ Some place
    → is_kept (map entry_from above) hash ≡ true → IsKeptAt (first ∷ reverse above) place
kept_in first above hash place is are e kept =
    let there = found_in first above hash place is are e in
    record {
      block_index = there.block_index;
      at = there.at;
      kept = let k : is_kept (map entry_from above) hash ≡ is_some there.block_index.kept = rw there.entry refl in sym k ∙ kept;
    }

push_is : (first block_index : BlockIndex) (older : List BlockIndex) → (first ∷ reverse older) ++ block_index ∷ [] ≡ first ∷ reverse (block_index ∷ older)
push_is first block_index older = ap (λ (ns : List BlockIndex). first ∷ ns) (sym (reverse_cons older block_index))

-- the newest block index stands on the way from its parent
leads_top : (first block_index : BlockIndex) (older : List BlockIndex) → IsFirst first → IsIndex block_index (map entry_from older) → AreIndexes older
    → Leads (first ∷ reverse older) block_index.parent (way (map entry_from older) block_index.header.prev)
    → Leads (first ∷ reverse (block_index ∷ older)) (suc (length older)) (record { place = suc (length older); entry = entry_from block_index } ∷ way (map entry_from older) block_index.header.prev)
leads_top first block_index older is one are w =
    let block_indexes = first ∷ reverse older in
    let steps = way (map entry_from older) block_index.header.prev in
    let below = found_in first older block_index.header.prev block_index.parent is are one.parent in
    let name = named block_indexes block_index.parent steps w in
    let parent : below.block_index ≡ name.block_index = same_Some below.block_index name.block_index (sym below.at ∙ name.at) in
    let up : Some (suc below.block_index.height) ≡ Some block_index.height = sym (ap (option_map suc) below.height) ∙ one.height in
    let higher : suc below.block_index.height ≡ block_index.height = same_Some (suc below.block_index.height) block_index.height up in
    let levels : below.block_index.height ≡ length steps = ap (λ (n : BlockIndex). n.height) parent ∙ name.height in
    let long : length (reverse older) ≡ length older = length-reverse older in
    let within : block_index.parent < length block_indexes = slice_get_within block_indexes block_index.parent below.block_index below.at in
    subst (λ (ns : List BlockIndex). Leads ns (suc (length older)) (record { place = suc (length older); entry = entry_from block_index } ∷ steps)) (push_is first block_index older) (
      record {
        block_index = block_index;
        at = get_end block_indexes block_index (suc (length older)) (ap suc long);
        place = refl;
        entry = refl;
        height = sym higher ∙ ap suc levels;
        hash = one.hash;
        low = one.low;
        parent = omega (arith, within, long);
        under = λ k. kept_more block_indexes (block_index ∷ []) block_index.parent (kept_in first older block_index.header.prev block_index.parent is are one.parent (one.under k));
      },
      Leads-more block_indexes (block_index ∷ []) block_index.parent steps w,
    )

leads_above : (first : BlockIndex) (above : List BlockIndex) (hash : Hash256) (place : ℕ) → IsFirst first → AreIndexes above → place_of (map entry_from above) hash ≡ Some place
    → Leads (first ∷ reverse above) place (way (map entry_from above) hash)
unfolding way
leads_above first [] hash place is are e =
    elim (chosen (same hash genesis_hash) 0 None place e) [
      | inl w ↦ record { zero = sym w.1; block_index = first; at = subst (λ (p : ℕ). slice_get (first ∷ []) p ≡ Some first) w.1 refl; first = is }
      | inr w ↦ absurd (let none : None ≡ Some place = w.1 in cc)
    ]
leads_above first (block_index ∷ older) hash place is are e =
    elim (chosen (same hash (block_hash block_index.header)) (suc (length (map entry_from older))) (place_of (map entry_from older) hash) place e) [
      | inl w ↦
          let long : length (map entry_from older) ≡ length older = length-map older entry_from in
          let here : suc (length older) ≡ place = ap suc (sym long) ∙ w.1 in
          let top = leads_top first block_index older is are.0 are.1 (leads_above first older block_index.header.prev block_index.parent is are.1 are.0.parent) in
          rw (w.0, long)
          (subst (λ (p : ℕ). Leads (first ∷ reverse (block_index ∷ older)) p (record { place = suc (length older); entry = entry_from block_index } ∷ way (map entry_from older) block_index.header.prev)) here top)
      | inr w ↦
          rw w.0
          (subst (λ (ns : List BlockIndex). Leads ns place (way (map entry_from older) hash)) (push_is first block_index older)
          (Leads-more (first ∷ reverse older) (block_index ∷ []) place (way (map entry_from older) hash) (leads_above first older hash place is are.1 w.1)))
    ]

-- the way from a known hash
pub leads : (block_indexes : List BlockIndex) (hash : Hash256) (place : ℕ) → IsTree block_indexes → place_of (tree_of block_indexes) hash ≡ Some place → Leads block_indexes place (way (tree_of block_indexes) hash)
leads [] hash place is e = absurd is
leads (first ∷ others) hash place is e =
    subst (λ (ns : List BlockIndex). Leads (first ∷ ns) place (way (map entry_from (reverse others)) hash)) (reverse-reverse others) (leads_above first (reverse others) hash place is.0 is.1 e)

-- its length is the height
pub height_way : (block_indexes : List BlockIndex) (hash : Hash256) (place : ℕ) → IsTree block_indexes → place_of (tree_of block_indexes) hash ≡ Some place → height_of (tree_of block_indexes) hash ≡ Some (length (way (tree_of block_indexes) hash))
height_way block_indexes hash place is e =
    let there = found block_indexes hash place is e in
    let name = named block_indexes place (way (tree_of block_indexes) hash) (leads block_indexes hash place is e) in
    let one : there.block_index ≡ name.block_index = same_Some there.block_index name.block_index (sym there.at ∙ name.at) in
    there.height ∙ ap Some (ap (λ (n : BlockIndex). n.height) one ∙ name.height)

branch_above : (above : List BlockIndex) (hash : Hash256) (place : ℕ) → AreIndexes above → place_of (map entry_from above) hash ≡ Some place
    → branch (map entry_from above) hash ≡ line_of (way (map entry_from above) hash)
unfolding way branch
branch_above [] hash place are e =
    elim (chosen (same hash genesis_hash) 0 None place e) [
      | inl w ↦ rw w.0 refl
      | inr w ↦ absurd (let none : None ≡ Some place = w.1 in cc)
    ]
branch_above (block_index ∷ older) hash place are e =
    elim (chosen (same hash (block_hash block_index.header)) (suc (length (map entry_from older))) (place_of (map entry_from older) hash) place e) [
      | inl w ↦ rw w.0 (ap (λ (hs : List Header). block_index.header ∷ hs) (branch_above older block_index.header.prev block_index.parent are.1 are.0.parent))
      | inr w ↦ rw w.0 (branch_above older hash place are.1 w.1)
    ]

-- the headers of a branch are those of its way, and the first
pub branch_way : (block_indexes : List BlockIndex) (hash : Hash256) (place : ℕ) → IsTree block_indexes → place_of (tree_of block_indexes) hash ≡ Some place
    → branch (tree_of block_indexes) hash ≡ map (λ step. step.entry.header) (way (tree_of block_indexes) hash) ++ genesis_header ∷ []
branch_way [] hash place is e = absurd is
branch_way (first ∷ others) hash place is e = branch_above (reverse others) hash place is.1 e

reverse_line : (steps : List Step) → reverse (line_of steps) ≡ genesis_header ∷ map header_of (reverse steps)
reverse_line steps = reverse-append (map header_of steps) (genesis_header ∷ []) ∙ ap (λ (hs : List Header). genesis_header ∷ hs) (sym (map_reverse header_of steps))

-- the active chain is the way of the tip, from the first block up
pub active_way : (block_indexes : List BlockIndex) → IsTree block_indexes → active (tree_of block_indexes) ≡ genesis_header ∷ map (λ step. step.entry.header) (climb (tree_of block_indexes) (best (tree_of block_indexes)))
active_way block_indexes is =
    let tip = known_best (tree_of block_indexes) in
    ap reverse (branch_way block_indexes (best (tree_of block_indexes)) tip.0 is tip.1) ∙ reverse_line (way (tree_of block_indexes) (best (tree_of block_indexes)))

pub length_climb : (tree : Tree) (hash : Hash256) → length (climb tree hash) ≡ length (way tree hash)
length_climb tree hash = length-reverse (way tree hash)

pub length_active : (block_indexes : List BlockIndex) → IsTree block_indexes → length (active (tree_of block_indexes)) ≡ suc (length (way (tree_of block_indexes) (best (tree_of block_indexes))))
length_active block_indexes is =
    let tree = tree_of block_indexes in
    ap length (active_way block_indexes is) ∙ ap suc (length-map (climb tree (best tree)) (λ step. step.entry.header) ∙ length_climb tree (best tree))

pub length_places : (tree : Tree) → length (active_places tree) ≡ suc (length (way tree (best tree)))
length_places tree = ap suc (length-map (climb tree (best tree)) (λ step. step.place) ∙ length_climb tree (best tree))

-- a way leads down from each place
leads_from : (first : BlockIndex) (above : List BlockIndex) (place : ℕ) → IsFirst first → AreIndexes above → place ≤ length above → (steps : List Step) × Leads (first ∷ reverse above) place steps
leads_from first [] place is are le =
    let none : 0 ≡ place = omega arith in
    ([], record { zero = sym none; block_index = first; at = subst (λ (p : ℕ). slice_get (first ∷ []) p ≡ Some first) none refl; first = is })
leads_from first (block_index ∷ older) place is are le =
    elim (cases_eq (suc (length older)) place) [
      | inl same ↦ (
        record { place = suc (length older); entry = entry_from block_index } ∷ way (map entry_from older) block_index.header.prev,
        subst (λ (p : ℕ). Leads (first ∷ reverse (block_index ∷ older)) p (record { place = suc (length older); entry = entry_from block_index } ∷ way (map entry_from older) block_index.header.prev)) same
            (leads_top first block_index older is are.0 are.1 (leads_above first older block_index.header.prev block_index.parent is are.1 are.0.parent)),
      )
      | inr other ↦
          let below = leads_from first older place is are.1 (omega arith) in
          (below.0, subst (λ (ns : List BlockIndex). Leads ns place below.0) (push_is first block_index older) (Leads-more (first ∷ reverse older) (block_index ∷ []) place below.0 below.1))
    ]

pub leads_at : (block_indexes : List BlockIndex) (place : ℕ) → IsTree block_indexes → place < length block_indexes → (steps : List Step) × Leads block_indexes place steps
leads_at [] place is lt = absurd is
leads_at (first ∷ others) place is lt =
    let down = leads_from first (reverse others) place is.0 is.1 (omega (arith, length-reverse others)) in
    (down.0, subst (λ (ns : List BlockIndex). Leads (first ∷ ns) place down.0) (reverse-reverse others) down.1)

-- ---- kept blocks

-- what a test makes of two hashes
kept_top : (block_index : BlockIndex) (older : List BlockIndex) (hash : Hash256) → IsIndex block_index (map entry_from older) → is_kept (map entry_from older) hash ≡ true → same hash (block_hash block_index.header) ≡ false
kept_top block_index older hash one kept =
    elim (cases_Bool (same hash (block_hash block_index.header))) [
      | inl is ↦
          let equal : hash ≡ block_index.hash = same-true hash (block_hash block_index.header) is ∙ sym one.hash in
          absurd (false≢true (sym one.once ∙ subst (λ (h : Hash256). is_kept (map entry_from older) h ≡ true) equal kept))
      | inr isnt ↦ isnt
    ]

kept_above : (first : BlockIndex) (above : List BlockIndex) (block_index : BlockIndex) (place : ℕ) → IsFirst first → AreIndexes above → slice_get (first ∷ reverse above) place ≡ Some block_index → is_some block_index.kept ≡ true
    → place_of (map entry_from above) block_index.hash ≡ Some place
unfolding genesis_hash
kept_above first [] block_index zero is are at kept =
    let one : first ≡ block_index = same_Some first block_index at in
    let name : block_index.hash ≡ genesis_hash = ap (λ (n : BlockIndex). n.hash) (sym one) ∙ is.hash in
    let test : same block_index.hash genesis_hash ≡ true = subst (λ (h : Hash256). same block_index.hash h ≡ true) name (same-refl block_index.hash) in
    rw test refl
kept_above first [] block_index (suc place) is are at kept = absurd (let none : None ≡ Some block_index = at in cc)
kept_above first (top ∷ older) block_index place is are at kept =
    let block_indexes = first ∷ reverse older in
    let long : length block_indexes ≡ suc (length older) = ap suc (length-reverse older) in
    let at_all : slice_get (block_indexes ++ top ∷ []) place ≡ Some block_index = subst (λ (ns : List BlockIndex). slice_get ns place ≡ Some block_index) (sym (push_is first top older)) at in
    let within : place < length (block_indexes ++ top ∷ []) = slice_get_within (block_indexes ++ top ∷ []) place block_index at_all in
    let all : length (block_indexes ++ top ∷ []) ≡ length block_indexes + 1 = length-append block_indexes (top ∷ []) in
    elim (cases_eq (suc (length older)) place) [
      | inl last ↦
          let one : top ≡ block_index = same_Some top block_index (sym (get_end block_indexes top place (long ∙ last)) ∙ at_all) in
          let name : block_index.hash ≡ block_hash top.header = ap (λ (n : BlockIndex). n.hash) (sym one) ∙ are.0.hash in
          let test : same block_index.hash (block_hash top.header) ≡ true = subst (λ (h : Hash256). same block_index.hash h ≡ true) name (same-refl block_index.hash) in
          rw test (ap Some (ap suc (length-map older entry_from) ∙ last))
      | inr other ↦
          let before : slice_get block_indexes place ≡ Some block_index = get_less block_indexes (top ∷ []) place block_index (omega arith) at_all in
          let lower : place_of (map entry_from older) block_index.hash ≡ Some place = kept_above first older block_index place is are.1 before kept in
          let there = found_in first older block_index.hash place is are.1 lower in
          let one : there.block_index ≡ block_index = same_Some there.block_index block_index (sym there.at ∙ before) in
          let had : is_kept (map entry_from older) block_index.hash ≡ is_some there.block_index.kept = rw there.entry refl in
          let has : is_kept (map entry_from older) block_index.hash ≡ true = had ∙ ap (λ (n : BlockIndex). is_some n.kept) one ∙ kept in
          rw (kept_top top older block_index.hash are.0 has) lower
    ]

-- nothing newer stands under the hash of a kept block
pub kept_place : (block_indexes : List BlockIndex) (block_index : BlockIndex) (place : ℕ) → IsTree block_indexes → slice_get block_indexes place ≡ Some block_index → is_some block_index.kept ≡ true → place_of (tree_of block_indexes) block_index.hash ≡ Some place
kept_place [] block_index place is at kept = absurd is
kept_place (first ∷ others) block_index place is at kept =
    kept_above first (reverse others) block_index place is.0 is.1 (subst (λ (ns : List BlockIndex). slice_get (first ∷ ns) place ≡ Some block_index) (sym (reverse-reverse others)) at) kept

-- so the way from a kept block is that from its hash
pub kept_way : (block_indexes : List BlockIndex) (block_index : BlockIndex) (place : ℕ) (steps : List Step) → IsTree block_indexes → slice_get block_indexes place ≡ Some block_index → is_some block_index.kept ≡ true → Leads block_indexes place steps
    → way (tree_of block_indexes) block_index.hash ≡ steps
kept_way block_indexes block_index place steps is at kept w =
    Leads-unique block_indexes place (way (tree_of block_indexes) block_index.hash) steps (leads block_indexes block_index.hash place is (kept_place block_indexes block_index place is at kept)) w

-- what is kept under a hash
pub kept_at : (block_indexes : List BlockIndex) (hash : Hash256) (place : ℕ) → IsTree block_indexes → place_of (tree_of block_indexes) hash ≡ Some place → is_kept (tree_of block_indexes) hash ≡ true → IsKeptAt block_indexes place
kept_at block_indexes hash place is e kept =
    let there = found block_indexes hash place is e in
    let had : is_kept (tree_of block_indexes) hash ≡ is_some there.block_index.kept = rw there.entry refl in
    record { block_index = there.block_index; at = there.at; kept = sym had ∙ kept }

has_spent : (entry : Entry) (before : Result Unspent Stop) → is_ok (then_spend entry before) ≡ true → is_some entry.block ≡ true
has_spent entry (Err stop) e = absurd (false≢true e)
has_spent entry (Ok u) e =
    elim entry.block as (λ (o : Option Block). is_ok (spend_block (block_hash entry.header) o u) ≡ true → is_some o ≡ true) [
      | None ↦ λ no. absurd (false≢true no)
      | Some block ↦ λ yes. refl
    ] e

ok_kept : (entry : Entry) (older : Tree) → is_ok (unspent_after (entry ∷ older) (block_hash entry.header)) ≡ true → is_some entry.block ≡ true
unfolding unspent_after
ok_kept entry older e =
    let here : unspent_after (entry ∷ older) (block_hash entry.header) ≡ then_spend entry (unspent_after older entry.header.prev) = rw (same-refl (block_hash entry.header)) refl in
    has_spent entry (unspent_after older entry.header.prev) (sym (ap is_ok here) ∙ e)

kept_choice : (block_index : BlockIndex) (older : List BlockIndex) (b : Bool) → IsIndex block_index (map entry_from older) → (b ≡ true → is_some block_index.kept ≡ true)
    → is_kept (map entry_from older) (best (map entry_from older)) ≡ true → is_kept (map entry_from (block_index ∷ older)) (cond b (block_hash block_index.header) (best (map entry_from older))) ≡ true
kept_choice block_index older true one leading below = rw (same-refl (block_hash block_index.header)) (leading refl)
kept_choice block_index older false one leading below = rw (kept_top block_index older (best (map entry_from older)) one below) below

best_above : (above : List BlockIndex) → AreIndexes above → is_kept (map entry_from above) (best (map entry_from above)) ≡ true
unfolding best genesis_hash
best_above [] are = rw (same-refl genesis_hash) refl
best_above (block_index ∷ older) are =
    let entry = entry_from block_index in
    let tree = map entry_from older in
    kept_choice block_index older (is_ok (unspent_after (entry ∷ tree) (block_hash block_index.header)) && is_higher (entry ∷ tree) (block_hash block_index.header) (best tree)) are.0
    (λ e. ok_kept entry tree ((and_parts (is_ok (unspent_after (entry ∷ tree) (block_hash block_index.header))) (is_higher (entry ∷ tree) (block_hash block_index.header) (best tree)) e).0)) (best_above older are.1)

-- the tip is kept
pub best_kept : (block_indexes : List BlockIndex) → IsTree block_indexes → is_kept (tree_of block_indexes) (best (tree_of block_indexes)) ≡ true
best_kept [] is = absurd is
best_kept (first ∷ others) is = best_above (reverse others) is.1

-- ---- by heights

-- The part of a way below a height and with it: it begins at the active place of that height, if the way is the tip's.
pub record AtHeight (block_indexes : List BlockIndex) (steps : List Step) (height : ℕ) : Type 0 where
  pub place : ℕ
  pub block_index : BlockIndex
  pub low : List Step
  pub front : List Step
  pub leads : Leads block_indexes place low
  pub long : length low ≡ height
  pub parts : steps ≡ front ++ low
  pub at : slice_get block_indexes place ≡ Some block_index
  pub level : block_index.height ≡ height
  pub hash : block_index.hash ≡ block_hash block_index.header
  pub slot : slice_get (0 ∷ map place_at (reverse steps)) height ≡ Some place
  pub header : slice_get (genesis_header ∷ map header_of (reverse steps)) height ≡ Some block_index.header
  pub kept : (p : ℕ) → Leads block_indexes p steps → IsKeptAt block_indexes p → is_some block_index.kept ≡ true

pub same_kept : (block_indexes : List BlockIndex) (place : ℕ) (block_index : BlockIndex) → slice_get block_indexes place ≡ Some block_index → IsKeptAt block_indexes place → is_some block_index.kept ≡ true
same_kept block_indexes place block_index at k = ap (λ (n : BlockIndex). is_some n.kept) (same_Some block_index k.block_index (sym at ∙ k.at)) ∙ k.kept

push_get : {A : Type 0} (x : A) (f : Step → A) (steps : List Step) (step : Step) (i : ℕ) (y : A) → slice_get (x ∷ map f (reverse steps)) i ≡ Some y → slice_get (x ∷ map f (reverse (step ∷ steps))) i ≡ Some y
push_get x f steps step i y e =
    let all : (x ∷ map f (reverse steps)) ++ f step ∷ [] ≡ x ∷ map f (reverse (step ∷ steps)) = ap (λ ys. x ∷ ys) (sym (ap (map f) (reverse_cons steps step) ∙ map-append f (reverse steps) (step ∷ []))) in
    subst (λ ys. slice_get ys i ≡ Some y) all (get_front (x ∷ map f (reverse steps)) (f step ∷ []) i y e)

last_get : {A : Type 0} (x : A) (f : Step → A) (steps : List Step) (step : Step) → slice_get (x ∷ map f (reverse (step ∷ steps))) (suc (length steps)) ≡ Some (f step)
last_get x f steps step =
    let all : map f (reverse steps) ++ f step ∷ [] ≡ map f (reverse (step ∷ steps)) = sym (ap (map f) (reverse_cons steps step) ∙ map-append f (reverse steps) (step ∷ [])) in
    subst (λ ys. slice_get ys (length steps) ≡ Some (f step)) all (get_end (map f (reverse steps)) (f step) (length steps) (length-map (reverse steps) f ∙ length-reverse steps))

pub at_height : (block_indexes : List BlockIndex) (place : ℕ) (steps : List Step) (height : ℕ) → Leads block_indexes place steps → height ≤ length steps → AtHeight block_indexes steps height
at_height block_indexes place [] height w le =
    let none : height ≡ 0 = omega arith in
    let name = named block_indexes place [] w in
    let one : w.block_index ≡ name.block_index = same_Some w.block_index name.block_index (sym w.at ∙ name.at) in
    record {
      place = place;
      block_index = w.block_index;
      low = [];
      front = [];
      leads = w;
      long = sym none;
      parts = refl;
      at = w.at;
      level = w.first.height ∙ sym none;
      hash = subst (λ (n : BlockIndex). n.hash ≡ block_hash n.header) (sym one) name.hash;
      slot = rw (none, w.zero) refl;
      header = rw (none, w.first.header) refl;
      kept = λ p v k. subst (λ (o : Option Block). is_some o ≡ true) (sym w.first.block) refl;
    }
at_height block_indexes place (step ∷ steps) height w le =
    elim (cases_eq (suc (length steps)) height) [
      | inl top ↦
          record {
            place = place;
            block_index = w.0.block_index;
            low = step ∷ steps;
            front = [];
            leads = w;
            long = top;
            parts = refl;
            at = w.0.at;
            level = w.0.height ∙ top;
            hash = w.0.hash;
            slot = subst (λ (h : ℕ). slice_get (0 ∷ map place_at (reverse (step ∷ steps))) h ≡ Some place) top (last_get 0 place_at steps step ∙ ap Some w.0.place);
            header = subst (λ (h : ℕ). slice_get (genesis_header ∷ map header_of (reverse (step ∷ steps))) h ≡ Some w.0.block_index.header) top (last_get genesis_header header_of steps step ∙ ap (λ (e : Entry). Some e.header) w.0.entry);
            kept = λ p v k. same_kept block_indexes place w.0.block_index w.0.at (subst (λ (q : ℕ). IsKeptAt block_indexes q) (sym v.0.place ∙ w.0.place) k);
          }
      | inr other ↦
          let below = at_height block_indexes w.0.block_index.parent steps height w.1 (omega arith) in
          record {
            place = below.place;
            block_index = below.block_index;
            low = below.low;
            front = step ∷ below.front;
            leads = below.leads;
            long = below.long;
            parts = ap (λ (ss : List Step). step ∷ ss) below.parts;
            at = below.at;
            level = below.level;
            hash = below.hash;
            slot = push_get 0 place_at steps step height below.place below.slot;
            header = push_get genesis_header header_of steps step height below.block_index.header below.header;
            kept = λ p v k. below.kept v.0.block_index.parent v.1 (v.0.under (same_kept block_indexes p v.0.block_index v.0.at k));
          }
    ]

-- the active block of a height: its place, its block index, and what is below it
pub record Active (block_indexes : List BlockIndex) (height : ℕ) : Type 0 where
  pub place : ℕ
  pub block_index : BlockIndex
  pub low : List Step
  pub leads : Leads block_indexes place low
  pub long : length low ≡ height
  pub at : slice_get block_indexes place ≡ Some block_index
  pub level : block_index.height ≡ height
  pub hash : block_index.hash ≡ block_hash block_index.header
  pub slot : slice_get (active_places (tree_of block_indexes)) height ≡ Some place
  pub header : slice_get (active (tree_of block_indexes)) height ≡ Some block_index.header
  pub kept : is_some block_index.kept ≡ true
  pub newest : place_of (tree_of block_indexes) block_index.hash ≡ Some place
  pub below : take height (climb (tree_of block_indexes) (best (tree_of block_indexes))) ≡ reverse low

pub low_reversed : (front low steps : List Step) (height : ℕ) → steps ≡ front ++ low → length low ≡ height → take height (reverse steps) ≡ reverse low
low_reversed front low steps height parts long =
    ap (λ (ss : List Step). take height (reverse ss)) parts ∙ ap (take height) (reverse-append front low) ∙ take_at (reverse low) (reverse front) height (length-reverse low ∙ long)

pub active_at : (block_indexes : List BlockIndex) (height : ℕ) → IsTree block_indexes → height ≤ length (way (tree_of block_indexes) (best (tree_of block_indexes))) → Active block_indexes height
active_at block_indexes height is le =
    let tree = tree_of block_indexes in
    let tip = known_best tree in
    let down = leads block_indexes (best tree) tip.0 is tip.1 in
    let there = at_height block_indexes tip.0 (way tree (best tree)) height down le in
    let kept = there.kept tip.0 down (kept_at block_indexes (best tree) tip.0 is tip.1 (best_kept block_indexes is)) in
    record {
      place = there.place;
      block_index = there.block_index;
      low = there.low;
      leads = there.leads;
      long = there.long;
      at = there.at;
      level = there.level;
      hash = there.hash;
      slot = there.slot;
      header = subst (λ (hs : List Header). slice_get hs height ≡ Some there.block_index.header) (sym (active_way block_indexes is)) there.header;
      kept = kept;
      newest = kept_place block_indexes there.block_index there.place is there.at kept;
      below = low_reversed there.front there.low (way tree (best tree)) height there.parts there.long;
    }

-- what stands higher than the tip
pub active_past : (block_indexes : List BlockIndex) (height : ℕ) → IsTree block_indexes → length (way (tree_of block_indexes) (best (tree_of block_indexes))) < height
    → (slice_get (active_places (tree_of block_indexes)) height ≡ None) × (slice_get (active (tree_of block_indexes)) height ≡ None)
active_past block_indexes height is lt = (
  slice_get_past (active_places (tree_of block_indexes)) height (omega (arith, length_places (tree_of block_indexes))),
  slice_get_past (active (tree_of block_indexes)) height (omega (arith, length_active block_indexes is)),
)

-- ---- whether a block index's hash stands on the active chain at its height

pub active_slot : (block_indexes : List BlockIndex) (height place : ℕ) → IsTree block_indexes → slice_get (active_places (tree_of block_indexes)) height ≡ Some place → (there : Active block_indexes height) × (there.place ≡ place)
active_slot block_indexes height place is e =
    elim (cases_lt (length (way (tree_of block_indexes) (best (tree_of block_indexes)))) height) [
      | inl past ↦ absurd (let none : None ≡ Some place = sym (active_past block_indexes height is past).0 ∙ e in cc)
      | inr le ↦ let there = active_at block_indexes height is le in (there, same_Some there.place place (sym there.slot ∙ e))
    ]

pub index_named : (block_indexes : List BlockIndex) (place : ℕ) (block_index : BlockIndex) → IsTree block_indexes → slice_get block_indexes place ≡ Some block_index → block_index.hash ≡ block_hash block_index.header
index_named block_indexes place block_index is at =
    let down = leads_at block_indexes place is (slice_get_within block_indexes place block_index at) in
    let name = named block_indexes place down.0 down.1 in
    subst (λ (n : BlockIndex). n.hash ≡ block_hash n.header) (same_Some name.block_index block_index (sym name.at ∙ at)) name.hash

pub stands_if : (block_indexes : List BlockIndex) (block_index other : BlockIndex) (place other_place : ℕ) → IsTree block_indexes → slice_get block_indexes place ≡ Some block_index → slice_get (active_places (tree_of block_indexes)) block_index.height ≡ Some other_place
    → slice_get block_indexes other_place ≡ Some other → same other.hash block_index.hash ≡ stands_at (active (tree_of block_indexes)) block_index.height block_index.header
stands_if block_indexes block_index other place other_place is at slot at_other =
    let there = active_slot block_indexes block_index.height other_place is slot in
    let one : there.0.block_index ≡ other = same_Some there.0.block_index other (sym there.0.at ∙ ap (slice_get block_indexes) there.1 ∙ at_other) in
    let header : slice_get (active (tree_of block_indexes)) block_index.height ≡ Some other.header = there.0.header ∙ ap (λ (n : BlockIndex). Some n.header) one in
    let name : block_index.hash ≡ block_hash block_index.header = index_named block_indexes place block_index is at in
    let other_name : other.hash ≡ block_hash other.header = index_named block_indexes other_place other is at_other in
    ap (λ (h : Hash256). same h block_index.hash) other_name ∙ ap (same (block_hash other.header)) name
    ∙ ap (λ (o : Option Header). option_map_or (λ x. same (block_hash x) (block_hash block_index.header)) o false) (sym header)

pub stands_not : (block_indexes : List BlockIndex) (block_index : BlockIndex) → IsTree block_indexes → length (active_places (tree_of block_indexes)) ≤ block_index.height → false ≡ stands_at (active (tree_of block_indexes)) block_index.height block_index.header
stands_not block_indexes block_index is past =
    let none = active_past block_indexes block_index.height is (omega (arith, length_places (tree_of block_indexes))) in
    ap (λ (o : Option Header). option_map_or (λ x. same (block_hash x) (block_hash block_index.header)) o false) (sym none.1)

-- what a look-up among the active places gives
pub slot_is : (tree : Tree) (places : List ℕ) (height other : ℕ) → places ≡ active_places tree → true ≡ ltb height (length places) → other ≡ get_or places height other
    → slice_get (active_places tree) height ≡ Some other
slot_is tree places height other are in_range e =
    subst (λ (ps : List ℕ). slice_get ps height ≡ Some other) are (slice_get_read places (length places) height other refl (ltb-true height (length places) (sym in_range)) e)

pub slot_within : (block_indexes : List BlockIndex) (height other : ℕ) → IsTree block_indexes → slice_get (active_places (tree_of block_indexes)) height ≡ Some other → other < length block_indexes
slot_within block_indexes height other is e =
    let there = active_slot block_indexes height other is e in
    subst (λ (p : ℕ). p < length block_indexes) there.1 (slice_get_within block_indexes there.0.place there.0.block_index there.0.at)
