-- Marks: they change nothing of a tree but themselves.
use Rattle.std.proofs.Common.{◌≡◌, ◌++◌, ◌⊎◌, ◌<◌, take, drop, arith, inl, inr, ℕ, zero, suc, Bool, true, false, cond, List, [], ◌∷◌, length, map, Some, None, Option, refl, sym, ap, subst, ◌∙◌}
use Rattle.std.specs.Prelude.{◌&&◌, ◌||◌, is_ok, is_some, IsSome, nat_lt, option_and_then, option_map, reverse, slice_get, unwrap_or, Result, Ok, Err}
use Rattle.std.proofs.lemmas.Bool.{cases_Bool, false≢true}
use Rattle.std.proofs.lemmas.List.{reverse-reverse, length-reverse, take_at}
use Rattle.cb_base.specs.declared.hash.Hash256.{Hash256}
use Rattle.cb_block.specs.declared.header.Header.{Header}
use Rattle.cb_ledger.specs.Unspent.{Unspent}
use Rattle.cb_chain.specs.Entries.{Entry, Tree, block_hash, same, entry_of, has_block, height_of, is_known, is_kept, is_marked}
use Rattle.cb_chain.specs.Best.{Stop, best, branch, leads_through, then_spend, unspent_after}
use Rattle.cb_chain.specs.Calls.{marked_above}
use Rattle.cb_chain.specs.Marking.{BlockIndex}
use Rattle.cb_chain.specs.Keeping.{Step, IsIndex, AreIndexes, IsTree, IsPlaced, active_places, block_at, climb, entry_from, mark_index, mark_indexes, marked_indexes, place_of, tree_of, way}
use Rattle.cb_chain.proofs.BlockIndexes.{map_reverse, same-refl, same-true}

-- ---- what an entry becomes

abbrev pub with_mark : Bool → Entry → Entry
with_mark b entry = cond b (record { header = entry.header; block = entry.block; marked = true }) entry

-- whether it is marked
abbrev pub marks : Hash256 → Entry → Tree → Bool
marks first entry older = is_some entry.block && leads_through (entry ∷ older) first (block_hash entry.header)

pub marks_keep_length : (first : Hash256) (tree : Tree) → length (marked_above first tree) ≡ length tree
marks_keep_length first [] = refl
marks_keep_length first (entry ∷ older) = ap suc (marks_keep_length first older)

-- ---- places and heights

place_step : (b : Bool) (entry : Entry) (older newer : Tree) (hash : Hash256) → length newer ≡ length older → place_of newer hash ≡ place_of older hash
    → place_of (with_mark b entry ∷ newer) hash ≡ place_of (entry ∷ older) hash
place_step true entry older newer hash long same_place = rw (long, same_place) refl
place_step false entry older newer hash long same_place = rw (long, same_place) refl

pub marks_keep_place : (first : Hash256) (tree : Tree) (hash : Hash256) → place_of (marked_above first tree) hash ≡ place_of tree hash
marks_keep_place first [] hash = refl
marks_keep_place first (entry ∷ older) hash =
    place_step (marks first entry older) entry older (marked_above first older) hash (marks_keep_length first older) (marks_keep_place first older hash)

height_step : (b : Bool) (entry : Entry) (older newer : Tree) (hash : Hash256) → ((h : Hash256) → height_of newer h ≡ height_of older h)
    → height_of (with_mark b entry ∷ newer) hash ≡ height_of (entry ∷ older) hash
height_step true entry older newer hash like = rw (like hash, like entry.header.prev) refl
height_step false entry older newer hash like = rw (like hash, like entry.header.prev) refl

pub marks_keep_height : (first : Hash256) (tree : Tree) (hash : Hash256) → height_of (marked_above first tree) hash ≡ height_of tree hash
marks_keep_height first [] hash = refl
marks_keep_height first (entry ∷ older) hash = height_step (marks first entry older) entry older (marked_above first older) hash (marks_keep_height first older)

-- ---- what is known and kept

known_step : (t b : Bool) (entry : Entry) (o p : Option Entry) → is_some p ≡ is_some o → is_some (cond t (Some (with_mark b entry)) p) ≡ is_some (cond t (Some entry) o)
known_step true b entry o p like = refl
known_step false b entry o p like = like

pub mark_header : (b : Bool) (entry : Entry) → (with_mark b entry).header ≡ entry.header
mark_header true entry = refl
mark_header false entry = refl

mark_block : (b : Bool) (entry : Entry) → (with_mark b entry).block ≡ entry.block
mark_block true entry = refl
mark_block false entry = refl

pub marks_keep_known : (first : Hash256) (tree : Tree) (hash : Hash256) → is_known (marked_above first tree) hash ≡ is_known tree hash
marks_keep_known first [] hash = refl
marks_keep_known first (entry ∷ older) hash =
    let b = marks first entry older in
    ap (λ (header : Header). is_some (cond (same hash (block_hash header)) (Some (with_mark b entry)) (entry_of (marked_above first older) hash))) (mark_header b entry)
    ∙ known_step (same hash (block_hash entry.header)) b entry (entry_of older hash) (entry_of (marked_above first older) hash) (marks_keep_known first older hash)

kept_step : (t b : Bool) (entry : Entry) (o p : Option Entry) → has_block p ≡ has_block o → has_block (cond t (Some (with_mark b entry)) p) ≡ has_block (cond t (Some entry) o)
kept_step true b entry o p like = ap is_some (mark_block b entry)
kept_step false b entry o p like = like

pub marks_keep_kept : (first : Hash256) (tree : Tree) (hash : Hash256) → is_kept (marked_above first tree) hash ≡ is_kept tree hash
marks_keep_kept first [] hash = refl
marks_keep_kept first (entry ∷ older) hash =
    let b = marks first entry older in
    ap (λ (header : Header). has_block (cond (same hash (block_hash header)) (Some (with_mark b entry)) (entry_of (marked_above first older) hash))) (mark_header b entry)
    ∙ kept_step (same hash (block_hash entry.header)) b entry (entry_of older hash) (entry_of (marked_above first older) hash) (marks_keep_kept first older hash)

-- ---- what is unspent

spend_like : (b : Bool) (entry : Entry) (r : Result Unspent Stop) → then_spend (with_mark b entry) r ≡ then_spend entry r
spend_like true entry (Ok u) = refl
spend_like true entry (Err stop) = refl
spend_like false entry r = refl

unspent_step : (b : Bool) (entry : Entry) (older newer : Tree) (hash : Hash256) → ((h : Hash256) → unspent_after newer h ≡ unspent_after older h)
    → unspent_after (with_mark b entry ∷ newer) hash ≡ unspent_after (entry ∷ older) hash
unfolding unspent_after
unspent_step b entry older newer hash like =
    ap (λ (header : Header). cond (same hash (block_hash header)) (then_spend (with_mark b entry) (unspent_after newer header.prev)) (unspent_after newer hash)) (mark_header b entry)
    ∙ ap (λ (r : Result Unspent Stop). cond (same hash (block_hash entry.header)) r (unspent_after newer hash)) (spend_like b entry (unspent_after newer entry.header.prev) ∙ ap (then_spend entry) (like entry.header.prev))
    ∙ ap (cond (same hash (block_hash entry.header)) (then_spend entry (unspent_after older entry.header.prev))) (like hash)

pub marks_keep_unspent : (first : Hash256) (tree : Tree) (hash : Hash256) → unspent_after (marked_above first tree) hash ≡ unspent_after tree hash
marks_keep_unspent first [] hash = refl
marks_keep_unspent first (entry ∷ older) hash = unspent_step (marks first entry older) entry older (marked_above first older) hash (marks_keep_unspent first older)

-- ---- the tip, and the headers down from one

best_by : Result Unspent Stop → Option ℕ → Option ℕ → Hash256 → Hash256 → Hash256
best_by r one other hash below = cond (is_ok r && nat_lt (unwrap_or other 0) (unwrap_or one 0)) hash below

best_is : (entry : Entry) (older : Tree)
    → best (entry ∷ older) ≡ best_by (unspent_after (entry ∷ older) (block_hash entry.header)) (height_of (entry ∷ older) (block_hash entry.header)) (height_of (entry ∷ older) (best older)) (block_hash entry.header) (best older)
unfolding best best_by
best_is entry older = refl

best_step : (entry other : Entry) (older newer : Tree) → other.header ≡ entry.header → best newer ≡ best older
    → ((h : Hash256) → unspent_after (other ∷ newer) h ≡ unspent_after (entry ∷ older) h) → ((h : Hash256) → height_of (other ∷ newer) h ≡ height_of (entry ∷ older) h)
    → best (other ∷ newer) ≡ best (entry ∷ older)
best_step entry other older newer header below spent high =
    let hash = block_hash entry.header in
    best_is other newer
    ∙ ap (λ (h : Header). best_by (unspent_after (other ∷ newer) (block_hash h)) (height_of (other ∷ newer) (block_hash h)) (height_of (other ∷ newer) (best newer)) (block_hash h) (best newer)) header
    ∙ ap (λ (h : Hash256). best_by (unspent_after (other ∷ newer) hash) (height_of (other ∷ newer) hash) (height_of (other ∷ newer) h) hash h) below
    ∙ ap (λ (r : Result Unspent Stop). best_by r (height_of (other ∷ newer) hash) (height_of (other ∷ newer) (best older)) hash (best older)) (spent hash)
    ∙ ap (λ (o : Option ℕ). best_by (unspent_after (entry ∷ older) hash) o (height_of (other ∷ newer) (best older)) hash (best older)) (high hash)
    ∙ ap (λ (o : Option ℕ). best_by (unspent_after (entry ∷ older) hash) (height_of (entry ∷ older) hash) o hash (best older)) (high (best older))
    ∙ sym (best_is entry older)

pub marks_keep_best : (first : Hash256) (tree : Tree) → best (marked_above first tree) ≡ best tree
marks_keep_best first [] = refl
marks_keep_best first (entry ∷ older) =
    best_step entry (with_mark (marks first entry older) entry) older (marked_above first older) (mark_header (marks first entry older) entry) (marks_keep_best first older)
    (marks_keep_unspent first (entry ∷ older)) (marks_keep_height first (entry ∷ older))

branch_step : (entry other : Entry) (older newer : Tree) (hash : Hash256) → other.header ≡ entry.header → ((h : Hash256) → branch newer h ≡ branch older h)
    → branch (other ∷ newer) hash ≡ branch (entry ∷ older) hash
unfolding branch
branch_step entry other older newer hash header like =
    ap (λ (h : Header). cond (same hash (block_hash h)) (h ∷ branch newer h.prev) (branch newer hash)) header
    ∙ ap (λ (hs : List Header). cond (same hash (block_hash entry.header)) (entry.header ∷ hs) (branch newer hash)) (like entry.header.prev)
    ∙ ap (cond (same hash (block_hash entry.header)) (entry.header ∷ branch older entry.header.prev)) (like hash)

pub marks_keep_branch : (first : Hash256) (tree : Tree) (hash : Hash256) → branch (marked_above first tree) hash ≡ branch tree hash
marks_keep_branch first [] hash = refl
marks_keep_branch first (entry ∷ older) hash =
    branch_step entry (with_mark (marks first entry older) entry) older (marked_above first older) hash (mark_header (marks first entry older) entry) (marks_keep_branch first older)

-- ---- ways

abbrev place_at : Step → ℕ
place_at step = step.place

way_step : (t : Bool) (step other : Step) (one two three four : List Step) → other.place ≡ step.place → map place_at three ≡ map place_at one → map place_at four ≡ map place_at two
    → map place_at (cond t (other ∷ three) four) ≡ map place_at (cond t (step ∷ one) two)
way_step true step other one two three four here along past = rw (here, along) refl
way_step false step other one two three four here along past = past

marks_keep_way : (first : Hash256) (tree : Tree) (hash : Hash256) → map place_at (way (marked_above first tree) hash) ≡ map place_at (way tree hash)
unfolding way
marks_keep_way first [] hash = refl
marks_keep_way first (entry ∷ older) hash =
    let b = marks first entry older in
    let newer = marked_above first older in
    ap (λ (h : Header). map place_at (cond (same hash (block_hash h)) (record { place = suc (length newer); entry = with_mark b entry } ∷ way newer h.prev) (way newer hash))) (mark_header b entry)
    ∙ way_step (same hash (block_hash entry.header)) (record { place = suc (length older); entry = entry }) (record { place = suc (length newer); entry = with_mark b entry })
    (way older entry.header.prev) (way older hash) (way newer entry.header.prev) (way newer hash)
    (ap suc (marks_keep_length first older)) (marks_keep_way first older entry.header.prev) (marks_keep_way first older hash)

marks_keep_climb : (first : Hash256) (tree : Tree) (hash : Hash256) → map place_at (climb (marked_above first tree) hash) ≡ map place_at (climb tree hash)
marks_keep_climb first tree hash =
    map_reverse place_at (way (marked_above first tree) hash) ∙ ap reverse (marks_keep_way first tree hash) ∙ sym (map_reverse place_at (way tree hash))

pub marks_keep_active_places : (first : Hash256) (tree : Tree) → active_places (marked_above first tree) ≡ active_places tree
marks_keep_active_places first tree =
    ap (λ (ps : List ℕ). 0 ∷ ps) (marks_keep_climb first tree (best (marked_above first tree)) ∙ ap (λ (h : Hash256). map place_at (climb tree h)) (marks_keep_best first tree))

-- ---- block indexes that are marked

pub leads_none : (first hash : Hash256) → leads_through [] first hash ≡ false
unfolding leads_through
leads_none first hash = refl

pub length_marks : (first : Hash256) (above : List BlockIndex) → length (mark_indexes first above) ≡ length above
length_marks first [] = refl
length_marks first (block_index ∷ older) = ap suc (length_marks first older)

abbrev pub marked_as : Bool → BlockIndex → BlockIndex
marked_as b block_index = cond b (record { header = block_index.header; hash = block_index.hash; height = block_index.height; parent = block_index.parent; kept = block_index.kept; marked = true }) block_index

entry_as : (b : Bool) (block_index : BlockIndex) → entry_from (marked_as b block_index) ≡ with_mark b (entry_from block_index)
entry_as true block_index = refl
entry_as false block_index = refl

marked_entries : (first : Hash256) (above : List BlockIndex) → map entry_from (mark_indexes first above) ≡ marked_above first (map entry_from above)
marked_entries first [] = refl
marked_entries first (block_index ∷ older) =
    ap (λ (e : Entry). e ∷ map entry_from (mark_indexes first older)) (entry_as (marks first (entry_from block_index) (map entry_from older)) block_index)
    ∙ ap (λ (es : Tree). with_mark (marks first (entry_from block_index) (map entry_from older)) (entry_from block_index) ∷ es) (marked_entries first older)

pub tree_marked : (first : Hash256) (block_indexes : List BlockIndex) → tree_of (marked_indexes first block_indexes) ≡ marked_above first (tree_of block_indexes)
tree_marked first [] = refl
tree_marked first (lowest ∷ others) = ap (map entry_from) (reverse-reverse (mark_indexes first (reverse others))) ∙ marked_entries first (reverse others)

pub length_marked : (first : Hash256) (block_indexes : List BlockIndex) → length (marked_indexes first block_indexes) ≡ length block_indexes
length_marked first [] = refl
length_marked first (lowest ∷ others) =
    ap suc (length-reverse (mark_indexes first (reverse others)) ∙ length_marks first (reverse others) ∙ length-reverse others)

-- ---- the entries under a hash

pub kept_under : (entry : Entry) (older : Tree) (hash : Hash256)
    → ((same hash (block_hash entry.header) ≡ true) × (is_kept (entry ∷ older) hash ≡ is_some entry.block)) ⊎ ((same hash (block_hash entry.header) ≡ false) × (is_kept (entry ∷ older) hash ≡ is_kept older hash))
kept_under entry older hash = elim (cases_Bool (same hash (block_hash entry.header))) [ inl w ↦ inl (w, rw w refl) | inr w ↦ inr (w, rw w refl) ]

marked_under : (entry : Entry) (older : Tree) (hash : Hash256) (b : Bool) → same hash (block_hash entry.header) ≡ b → is_marked (entry ∷ older) hash ≡ cond b entry.marked (is_marked older hash)
marked_under entry older hash true e = rw e refl
marked_under entry older hash false e = rw e refl

pub leads_under : (entry : Entry) (older : Tree) (first hash : Hash256) (b : Bool) → same hash (block_hash entry.header) ≡ b
    → leads_through (entry ∷ older) first hash ≡ cond b (cond (same hash first) true (leads_through older first entry.header.prev)) (leads_through older first hash)
unfolding leads_through
leads_under entry older first hash b e = rw e refl

pub kept_beyond : (block_index : BlockIndex) (older : Tree) (hash : Hash256) → IsIndex block_index older → is_kept older hash ≡ true → is_kept (entry_from block_index ∷ older) hash ≡ true
kept_beyond block_index older hash is e =
    elim (kept_under (entry_from block_index) older hash) [
      | inl w ↦ absurd (false≢true (sym is.once ∙ subst (λ (h : Hash256). is_kept older h ≡ true) (same-true hash (block_hash block_index.header) w.0 ∙ sym is.hash) e))
      | inr w ↦ w.1 ∙ e
    ]

pub kept_itself : (block_index : BlockIndex) (older : Tree) → is_some block_index.kept ≡ true → is_kept (entry_from block_index ∷ older) (block_hash block_index.header) ≡ true
kept_itself block_index older kept = rw (same-refl (block_hash block_index.header)) kept

-- whether a kept block index is marked
marks_is : (entry : Entry) (older : Tree) (first : Hash256) → is_some entry.block ≡ true → marks first entry older ≡ cond (same (block_hash entry.header) first) true (leads_through older first entry.header.prev)
marks_is entry older first kept =
    ap (λ (b : Bool). b && leads_through (entry ∷ older) first (block_hash entry.header)) kept
    ∙ leads_under entry older first (block_hash entry.header) true (same-refl (block_hash entry.header))

or_either : (m b : Bool) → cond b true m ≡ m || b
or_either true true = refl
or_either true false = refl
or_either false true = refl
or_either false false = refl

mark_as : (b : Bool) (entry : Entry) → (with_mark b entry).marked ≡ cond b true entry.marked
mark_as true entry = refl
mark_as false entry = refl

-- a kept block index is marked where it was, or where it leads through the first
pub marked_is : (tree : Tree) (first hash : Hash256) → is_kept tree hash ≡ true → is_marked (marked_above first tree) hash ≡ is_marked tree hash || leads_through tree first hash
marked_is [] first hash kept = or_either (is_marked [] hash) false ∙ ap (λ (b : Bool). is_marked [] hash || b) (sym (leads_none first hash))
marked_is (entry ∷ older) first hash kept =
    let b = marks first entry older in
    let other = with_mark b entry in
    elim (kept_under entry older hash) [
      | inl w ↦
          let it : hash ≡ block_hash entry.header = same-true hash (block_hash entry.header) w.0 in
          let through : b ≡ leads_through (entry ∷ older) first hash =
          ap (λ (k : Bool). k && leads_through (entry ∷ older) first (block_hash entry.header)) (sym w.1 ∙ kept) ∙ ap (leads_through (entry ∷ older) first) (sym it) in
          marked_under other (marked_above first older) hash true (ap (λ (h : Header). same hash (block_hash h)) (mark_header b entry) ∙ w.0)
          ∙ mark_as b entry ∙ or_either entry.marked b ∙ ap (λ (x : Bool). x || b) (sym (marked_under entry older hash true w.0)) ∙ ap (λ (x : Bool). is_marked (entry ∷ older) hash || x) through
      | inr w ↦
          marked_under other (marked_above first older) hash false (ap (λ (h : Header). same hash (block_hash h)) (mark_header b entry) ∙ w.0)
          ∙ marked_is older first hash (sym w.1 ∙ kept)
          ∙ ap (λ (x : Bool). x || leads_through older first hash) (sym (marked_under entry older hash false w.0))
          ∙ ap (λ (x : Bool). is_marked (entry ∷ older) hash || x) (sym (leads_under entry older first hash false w.0))
    ]

-- ---- a tree of marked block indexes

like_index : (b : Bool) (block_index : BlockIndex) (older newer : Tree) → IsIndex block_index older → ((h : Hash256) → place_of newer h ≡ place_of older h) → ((h : Hash256) → height_of newer h ≡ height_of older h)
    → ((h : Hash256) → is_kept newer h ≡ is_kept older h) → (is_some block_index.kept ≡ true → is_marked newer block_index.header.prev ≡ true → (marked_as b block_index).marked ≡ true) → IsIndex (marked_as b block_index) newer
like_index true block_index older newer is places heights kept told =
    record {
      hash = is.hash;
      parent = places block_index.header.prev ∙ is.parent;
      height = ap (option_map suc) (heights block_index.header.prev) ∙ is.height;
      low = is.low;
      once = kept block_index.hash ∙ is.once;
      under = λ k. kept block_index.header.prev ∙ is.under k;
      marks = told;
    }
like_index false block_index older newer is places heights kept told =
    record {
      hash = is.hash;
      parent = places block_index.header.prev ∙ is.parent;
      height = ap (option_map suc) (heights block_index.header.prev) ∙ is.height;
      low = is.low;
      once = kept block_index.hash ∙ is.once;
      under = λ k. kept block_index.header.prev ∙ is.under k;
      marks = told;
    }

told_by : (s m l : Bool) (block_index : BlockIndex) → (m ≡ true → block_index.marked ≡ true) → m || l ≡ true → (marked_as (cond s true l) block_index).marked ≡ true
told_by true m l block_index was e = refl
told_by false m true block_index was e = refl
told_by false true false block_index was e = was refl
told_by false false false block_index was e = absurd (false≢true e)

one_marked : (first : Hash256) (block_index : BlockIndex) (older : Tree) → IsIndex block_index older → IsIndex (mark_index first older block_index) (marked_above first older)
one_marked first block_index older is =
    like_index (marks first (entry_from block_index) older) block_index older (marked_above first older) is (marks_keep_place first older) (marks_keep_height first older) (marks_keep_kept first older)
    (λ kept told.
    let prev = block_index.header.prev in
    subst (λ (b : Bool). (marked_as b block_index).marked ≡ true) (sym (marks_is (entry_from block_index) older first kept))
    (told_by (same (block_hash block_index.header) first) (is_marked older prev) (leads_through older first prev) block_index (is.marks kept) (sym (marked_is older first prev (is.under kept)) ∙ told)))

are_marked : (first : Hash256) (above : List BlockIndex) → AreIndexes above → AreIndexes (mark_indexes first above)
are_marked first [] are = tt
are_marked first (block_index ∷ older) are =
    (subst (IsIndex (mark_index first (map entry_from older) block_index)) (sym (marked_entries first older)) (one_marked first block_index (map entry_from older) are.0), are_marked first older are.1)

pub is_marked_tree : (first : Hash256) (block_indexes : List BlockIndex) → IsTree block_indexes → IsTree (marked_indexes first block_indexes)
is_marked_tree first [] is = absurd is
is_marked_tree first (lowest ∷ others) is =
    (is.0, subst AreIndexes (sym (reverse-reverse (mark_indexes first (reverse others)))) (are_marked first (reverse others) is.1))

pub placed_marked : (first : Hash256) (block_indexes : List BlockIndex) (es : List (Hash256 × ℕ)) → IsPlaced block_indexes es → IsPlaced (marked_indexes first block_indexes) es
placed_marked first block_indexes es is =
    record {
      tree = is_marked_tree first block_indexes is.tree;
      places = λ hash. is.places hash ∙ sym (ap (λ (t : Tree). place_of t hash) (tree_marked first block_indexes) ∙ marks_keep_place first (tree_of block_indexes) hash);
    }

-- ---- block indexes by their places

pub one_index : (block_indexes : List BlockIndex) (i j : ℕ) (block_index other : BlockIndex) → slice_get block_indexes i ≡ Some block_index → slice_get block_indexes j ≡ Some other → i ≡ j → block_index ≡ other
one_index block_indexes i j block_index other at there e = cc

target_of : (o : Option BlockIndex) → IsSome (option_and_then (λ block_index. block_index.kept) o) → (target : BlockIndex) × (o ≡ Some target) × (is_some target.kept ≡ true)
target_of None is = absurd (false≢true is)
target_of (Some block_index) is = (block_index, refl, is)

pub target_at : (block_indexes : List BlockIndex) (first : ℕ) → IsSome (block_at block_indexes first) → (target : BlockIndex) × (slice_get block_indexes first ≡ Some target) × (is_some target.kept ≡ true)
target_at block_indexes first is = target_of (slice_get block_indexes first) is

pub index_at : (block_indexes : List BlockIndex) (place : ℕ) → place < length block_indexes → (block_index : BlockIndex) × (slice_get block_indexes place ≡ Some block_index)
index_at [] place within = absurd (omega arith)
index_at (block_index ∷ block_indexes) zero within = (block_index, refl)
index_at (block_index ∷ block_indexes) (suc place) within = index_at block_indexes place (omega arith)

-- a list that is lent whole and comes back marked
pub lent_back : (first : ℕ) (target : BlockIndex) (old lent new : List BlockIndex) (count : ℕ) → lent ≡ old → count ≡ length old → slice_get old first ≡ Some target
    → ((block_index : BlockIndex) → slice_get lent first ≡ Some block_index → new ≡ marked_indexes block_index.hash lent) → take count (new ++ drop (length new) old) ≡ marked_indexes target.hash old
lent_back first target old lent new count same_list long at marks_are =
    let new_is : new ≡ marked_indexes target.hash old = marks_are target (ap (λ (ns : List BlockIndex). slice_get ns first) same_list ∙ at) ∙ ap (marked_indexes target.hash) same_list in
    take_at new (drop (length new) old) count (ap length new_is ∙ length_marked target.hash old ∙ sym long) ∙ new_is
