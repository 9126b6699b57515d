-- A block index that is kept beside the active chain.
use Rattle.std.proofs.Common as common
use Rattle.std.proofs.Common.{◌≡◌, ℕ, zero, suc, ◌+◌, ◌<◌, ◌≤◌, Bool, true, false, cond, List, [], ◌∷◌, ◌++◌, append-nil, length, Some, None, Option, refl, sym, ap, subst, ◌∙◌, arith, inl, inr, ◌⊎◌, nat_lt}
use Rattle.std.proofs.lemmas.Bool.Decides.{nat_tests}
use Rattle.std.specs.Prelude.{slice_get, is_ok, is_some, not, reverse, ◌&&◌, IfErr, Result, Ok, Err}
use Rattle.std.proofs.lemmas.Bool.{cases_Bool, false≢true}
use Rattle.cb_base.specs.declared.fault.Fault.{Fault}
use Rattle.cb_base.specs.declared.fault.Fault.TheVariants.{BadParent, Known, Memory, NoParent, TooMany}
use Rattle.cb_base.specs.declared.hash.Hash256.{Hash256}
use Rattle.cb_block.specs.declared.block.Block.{Block}
use Rattle.cb_block.specs.declared.header.Header.{Header}
use Rattle.cb_block.specs.Blocks.{IsRefused}
use Rattle.cb_block.specs.Work.{HasWork}
use Rattle.cb_ledger.specs.Unspent.{Unspent}
use Rattle.cb_chain.specs.declared.accepting.Spot.{Spot}
use Rattle.cb_chain.specs.Marking.{BlockIndex, mark_at, mark_of}
use Rattle.cb_chain.specs.Best.{Stop, active, best, branch, is_higher, then_spend, unspent_after}
use Rattle.cb_chain.specs.Entries.{Entry, Tree, block_hash, same, entry_of, has_block, has_mark, height_of, is_known, is_kept, is_marked}
use Rattle.cb_chain.specs.declared.change.Change as Moves
use Rattle.cb_chain.specs.Calls.AcceptsBlock.{breaks_rule, refused}
use Rattle.cb_chain.specs.Calls.{AcceptsBlock, bad_entry, header_entry, header_fault, block_entry, block_fault, is_full_under, joined, no_change}
use Rattle.cb_chain.specs.Keeping.{Step, entry_from, tree_of, place_of, way, climb, index_on, parent_fault, IsIndex, IsSpot, IsTree}
use Rattle.cb_chain.specs.Laws.{LeadsOver, active_hashes}
use Rattle.cb_chain.proofs.BlockIndexes.{found, unfound, same-refl, same-true, tree_grown}

-- ---- where a header will stand

-- the block index at the place of a hash, where the tree is known by its view
pub record AtIndex (tree : Tree) (hash : Hash256) (block_index : BlockIndex) : Type 0 where
  pub entry : entry_of tree hash ≡ Some (entry_from block_index)
  pub height : height_of tree hash ≡ Some block_index.height

pub known_at : (block_indexes : List BlockIndex) (tree : Tree) (hash : Hash256) (place : ℕ) (block_index : BlockIndex) → IsTree block_indexes → tree_of block_indexes ≡ tree → place_of (tree_of block_indexes) hash ≡ Some place → slice_get block_indexes place ≡ Some block_index
    → AtIndex tree hash block_index
known_at block_indexes tree hash place block_index is view at here =
    let f = found block_indexes hash place is at in
    let one : f.block_index ≡ block_index = cc (f.at, here) in
    subst (λ (t : Tree). AtIndex t hash block_index) view (subst (λ (n : BlockIndex). AtIndex (tree_of block_indexes) hash n) one (record { entry = f.entry; height = f.height }))

-- the block index at the place of a hash, and whether it is marked
pub known_by : (block_indexes : List BlockIndex) (hash : Hash256) (place : ℕ) (marked : Bool) → IsTree block_indexes → place_of (tree_of block_indexes) hash ≡ Some place → marked ≡ mark_at block_indexes place
    → (block_index : BlockIndex) × AtIndex (tree_of block_indexes) hash block_index × (block_index.marked ≡ marked)
known_by block_indexes hash place marked is at told =
    let f = found block_indexes hash place is at in
    (f.block_index, record { entry = f.entry; height = f.height }, sym (told ∙ ap mark_of f.at))

-- the reasons against a parent that is known
abbrev pub index_fault : BlockIndex → Bool → Option Fault
index_fault block_index block = cond block_index.marked (Some BadParent) (cond (block && not (is_some block_index.kept)) (Some NoParent) (cond (nat_lt 1000000000 (suc block_index.height)) (Some TooMany) None))

pub parent_known : (tree : Tree) (hash : Hash256) (block_index : BlockIndex) (block : Bool) → AtIndex tree hash block_index → parent_fault tree hash block ≡ index_fault block_index block
parent_known tree hash block_index block is = rw (is.entry, is.height) refl

pub parent_unknown : (block_indexes : List BlockIndex) (tree : Tree) (hash : Hash256) (block : Bool) → tree_of block_indexes ≡ tree → place_of (tree_of block_indexes) hash ≡ None → parent_fault tree hash block ≡ Some NoParent
parent_unknown block_indexes tree hash block view none = subst (λ (t : Tree). parent_fault t hash block ≡ Some NoParent) view (let u = unfound block_indexes hash none in rw u.0 refl)

pub fault_marked : (block_index : BlockIndex) (block : Bool) → block_index.marked ≡ true → index_fault block_index block ≡ Some BadParent
fault_marked block_index block marked = rw marked refl

pub fault_bare : (block_index : BlockIndex) (block : Bool) → block_index.marked ≡ false → block ≡ true → is_some block_index.kept ≡ false → index_fault block_index block ≡ Some NoParent
fault_bare block_index block marked asked bare = rw (marked, asked, bare) refl

low_or_high : (height : ℕ) → height < 1000000000 → cond (nat_lt 1000000000 (suc height)) (Some TooMany) None ≡ None
low_or_high height low = grind (arith, nat_tests)

high : (height : ℕ) → 1000000000 ≤ height → cond (nat_lt 1000000000 (suc height)) (Some TooMany) None ≡ Some TooMany
high height above = grind (arith, nat_tests)

-- the block isn't asked for, or is there
pub has_asked : (block : Bool) (block_index : BlockIndex) → (block ≡ false) ⊎ (is_some block_index.kept ≡ true) → (block && not (is_some block_index.kept)) ≡ false
has_asked true block_index (inl e) = absurd cc
has_asked false block_index (inl e) = refl
has_asked true block_index (inr e) = rw e refl
has_asked false block_index (inr e) = refl

pub fault_high : (block_index : BlockIndex) (block : Bool) → block_index.marked ≡ false → (block && not (is_some block_index.kept)) ≡ false → 1000000000 ≤ block_index.height → index_fault block_index block ≡ Some TooMany
fault_high block_index block marked asked above = rw (marked, asked) (high block_index.height above)

pub fault_none : (block_index : BlockIndex) (block : Bool) → block_index.marked ≡ false → (block && not (is_some block_index.kept)) ≡ false → block_index.height < 1000000000 → index_fault block_index block ≡ None
fault_none block_index block marked asked low = rw (marked, asked) (low_or_high block_index.height low)

-- a spot on the block index at its parent's place
pub spot_at : (block_indexes : List BlockIndex) (tree : Tree) (given : Header) (spot : Spot) (block_index : BlockIndex) → tree_of block_indexes ≡ tree → place_of (tree_of block_indexes) given.prev ≡ Some spot.parent → AtIndex tree given.prev block_index
    → spot.header ≡ given → spot.hash ≡ block_hash given → spot.height ≡ block_index.height + 1 → block_index.height < 1000000000 → IsSpot spot given tree
spot_at block_indexes tree given spot block_index view at is header hash height low =
    let one : suc block_index.height ≡ spot.height = omega arith in
    record {
      header = header;
      hash = hash;
      parent = subst (λ (t : Tree). place_of t given.prev ≡ Some spot.parent) view at;
      height = rw is.height (ap Some one);
      low = omega arith;
    }

-- ---- a hash that is known, or isn't

pub header_marked : (tree : Tree) (header : Header) (block_index : BlockIndex) → AtIndex tree (block_hash header) block_index → block_index.marked ≡ true → header_fault tree header ≡ Some BadParent
header_marked tree header block_index is marked = rw (is.entry, marked) refl

pub header_known : (tree : Tree) (header : Header) (block_index : BlockIndex) → AtIndex tree (block_hash header) block_index → block_index.marked ≡ false → header_fault tree header ≡ Some Known
header_known tree header block_index is marked = rw (is.entry, marked) refl

pub header_unknown : (block_indexes : List BlockIndex) (tree : Tree) (header : Header) → tree_of block_indexes ≡ tree → place_of (tree_of block_indexes) (block_hash header) ≡ None → header_fault tree header ≡ parent_fault tree header.prev false
header_unknown block_indexes tree header view none = subst (λ (t : Tree). header_fault t header ≡ parent_fault t header.prev false) view (let u = unfound block_indexes (block_hash header) none in rw u.0 refl)

-- for a block the tests of its parent may come in either order
block_tests : (entry : Option Entry) (full : Option Fault)
    → cond (has_mark entry) (Some BadParent) (cond (not (has_block entry)) (Some NoParent) full)
    ≡ cond (not (is_some entry)) (Some NoParent) (cond (has_mark entry) (Some BadParent) (cond (true && not (has_block entry)) (Some NoParent) full))
block_tests None full = refl
block_tests (Some entry) full = refl

block_on : (tree : Tree) (prev : Hash256)
    → cond (is_marked tree prev) (Some BadParent) (cond (not (is_kept tree prev)) (Some NoParent) (cond (is_full_under tree prev) (Some TooMany) None)) ≡ parent_fault tree prev true
block_on tree prev = block_tests (entry_of tree prev) (cond (is_full_under tree prev) (Some TooMany) None)

pub block_marked : (tree : Tree) (header : Header) (block_index : BlockIndex) → AtIndex tree (block_hash header) block_index → block_index.marked ≡ true → block_fault tree header ≡ Some BadParent
block_marked tree header block_index is marked = rw (is.entry, marked) refl

pub block_kept : (tree : Tree) (header : Header) (block_index : BlockIndex) → AtIndex tree (block_hash header) block_index → block_index.marked ≡ false → is_some block_index.kept ≡ true → block_fault tree header ≡ Some Known
block_kept tree header block_index is marked kept = rw (is.entry, marked, kept) refl

pub block_bare : (tree : Tree) (header : Header) (block_index : BlockIndex) → AtIndex tree (block_hash header) block_index → block_index.marked ≡ false → is_some block_index.kept ≡ false → block_fault tree header ≡ parent_fault tree header.prev true
block_bare tree header block_index is marked bare = rw (is.entry, marked, bare) (block_on tree header.prev)

pub block_unknown : (block_indexes : List BlockIndex) (tree : Tree) (header : Header) → tree_of block_indexes ≡ tree → place_of (tree_of block_indexes) (block_hash header) ≡ None → block_fault tree header ≡ parent_fault tree header.prev true
block_unknown block_indexes tree header view none =
    subst (λ (t : Tree). block_fault t header ≡ parent_fault t header.prev true) view (let u = unfound block_indexes (block_hash header) none in rw u.0 (block_on (tree_of block_indexes) header.prev))

-- ---- what a header becomes where nothing speaks against it

pub none_first : (b : Bool) (fault : Fault) (others : Option Fault) → cond b (Some fault) others ≡ None → (b ≡ false) × (others ≡ None)
none_first true fault others e = absurd cc
none_first false fault others e = (refl, e)

pub not_false : (b : Bool) → not b ≡ false → b ≡ true
not_false true e = refl
not_false false e = absurd cc

pub known_is_kept : (entry : Option Entry) → is_some entry ≡ false → has_block entry ≡ false
known_is_kept None e = refl
known_is_kept (Some entry) e = absurd cc

-- what holds where there is no reason against a block
pub record IsFree (tree : Tree) (header : Header) : Type 0 where
  pub once : is_kept tree (block_hash header) ≡ false
  pub under : is_kept tree header.prev ≡ true
  pub marks : is_marked tree header.prev ≡ false

pub block_free : (tree : Tree) (header : Header) → block_fault tree header ≡ None → IsFree tree header
block_free tree header e =
    let hash = block_hash header in
    let full = cond (is_full_under tree header.prev) (Some TooMany) None in
    let lacking = cond (not (is_kept tree header.prev)) (Some NoParent) full in
    let under = cond (is_marked tree header.prev) (Some BadParent) lacking in
    let a = none_first (is_marked tree hash) BadParent (cond (is_kept tree hash) (Some Known) under) e in
    let b = none_first (is_kept tree hash) Known under a.1 in
    let c = none_first (is_marked tree header.prev) BadParent lacking b.1 in
    let d = none_first (not (is_kept tree header.prev)) NoParent full c.1 in
    record { once = b.0; under = not_false (is_kept tree header.prev) d.0; marks = c.0 }

pub header_free : (tree : Tree) (header : Header) → header_fault tree header ≡ None → is_kept tree (block_hash header) ≡ false
header_free tree header e =
    let hash = block_hash header in
    let a = none_first (is_marked tree hash) BadParent (cond (is_known tree hash) (Some Known) (parent_fault tree header.prev false)) e in
    let b = none_first (is_known tree hash) Known (parent_fault tree header.prev false) a.1 in
    known_is_kept (entry_of tree hash) b.0

spot_index : (spot : Spot) (given : Header) (older : Tree) (kept : Option Block) (marked : Bool) → IsSpot spot given older → is_kept older (block_hash given) ≡ false
    → (is_some kept ≡ true → is_kept older given.prev ≡ true) → (is_some kept ≡ true → is_marked older given.prev ≡ true → marked ≡ true) → IsIndex (index_on spot kept marked) older
spot_index spot given older kept marked is once under marks =
    record {
      hash = is.hash ∙ ap block_hash (sym is.header);
      parent = rw is.header is.parent;
      height = rw is.header is.height;
      low = is.low;
      once = rw is.hash once;
      under = rw is.header under;
      marks = rw is.header marks;
    }

-- a header alone
pub bare_index : (spot : Spot) (given : Header) (older : Tree) (marked : Bool) → IsSpot spot given older → is_kept older (block_hash given) ≡ false → IsIndex (index_on spot None marked) older
bare_index spot given older marked is once = spot_index spot given older None marked is once (λ e. absurd (let f : false ≡ true = e in cc)) (λ e m. absurd (let f : false ≡ true = e in cc))

-- a block
pub index_of_block : (spot : Spot) (block : Block) (older : Tree) → IsSpot spot block.header older → block_fault older block.header ≡ None → IsIndex (index_on spot (Some block) false) older
index_of_block spot block older is none =
    let free = block_free older block.header none in
    spot_index spot block.header older (Some block) false is free.once (λ e. free.under) (λ e m. absurd (let f : false ≡ true = sym free.marks ∙ m in cc))

-- ---- the tip stays

-- a kept hash is another than one that isn't
pub kept_other : (tree : Tree) (one other : Hash256) → is_kept tree one ≡ true → is_kept tree other ≡ false → same one other ≡ false
kept_other tree one other kept bare =
    elim (cases_Bool (same one other)) [
      | inl is ↦ absurd (false≢true (sym bare ∙ subst (λ (h : Hash256). is_kept tree h ≡ true) (same-true one other is) kept))
      | inr isnt ↦ isnt
    ]

-- an entry by its own hash
pub unspent_own : (entry : Entry) (older : Tree) → unspent_after (entry ∷ older) (block_hash entry.header) ≡ then_spend entry (unspent_after older entry.header.prev)
unfolding unspent_after
unspent_own entry older = rw (same-refl (block_hash entry.header)) refl

not_second : (one other : Bool) → other ≡ false → (one && other) ≡ false
not_second true other e = e
not_second false other e = refl

pub bare_err : (entry : Entry) (below : Result Unspent Stop) → entry.block ≡ None → is_ok (then_spend entry below) ≡ false
bare_err entry (Ok u) bare = rw bare refl
bare_err entry (Err stop) bare = refl

-- a header alone is no tip
pub bare_best : (entry : Entry) (older : Tree) → entry.block ≡ None → best (entry ∷ older) ≡ best older
unfolding best
bare_best entry older bare =
    let err : is_ok (unspent_after (entry ∷ older) (block_hash entry.header)) ≡ false =
    ap is_ok (unspent_own entry older) ∙ bare_err entry (unspent_after older entry.header.prev) bare
    in
    rw err refl

-- neither is a block that isn't higher
pub low_best : (entry : Entry) (older : Tree) → is_higher (entry ∷ older) (block_hash entry.header) (best older) ≡ false → best (entry ∷ older) ≡ best older
unfolding best
low_best entry older low =
    let not_both = not_second (is_ok (unspent_after (entry ∷ older) (block_hash entry.header))) (is_higher (entry ∷ older) (block_hash entry.header) (best older)) low in
    ap (λ (b : Bool). cond b (block_hash entry.header) (best older)) not_both

pub climb_aside : (entry : Entry) (older : Tree) → best (entry ∷ older) ≡ best older → same (best older) (block_hash entry.header) ≡ false → climb (entry ∷ older) (best (entry ∷ older)) ≡ climb older (best older)
unfolding way
climb_aside entry older stays other =
    let ways : way (entry ∷ older) (best older) ≡ way older (best older) = rw other refl in
    ap (climb (entry ∷ older)) stays ∙ ap (λ (steps : List Step). reverse steps) ways

-- a chain at rest with one block index more, whose room was made before: what the code has in hand, and the new tree
pub record Grows (block_indexes : List BlockIndex) (roomy : List BlockIndex) (tree : Tree) (block_index : BlockIndex) : Type 0 where
  pub is : IsTree roomy
  pub same : roomy ≡ block_indexes
  pub view : tree_of block_indexes ≡ tree
  pub one : IsIndex block_index tree

pub grows_tree : (block_indexes roomy more : List BlockIndex) (tree : Tree) (block_index : BlockIndex) → Grows block_indexes roomy tree block_index → more ≡ roomy ++ block_index ∷ [] → tree_of more ≡ entry_from block_index ∷ tree
grows_tree block_indexes roomy more tree block_index g grown = ap tree_of grown ∙ tree_grown roomy block_index g.is ∙ ap (λ (t : Tree). entry_from block_index ∷ t) (ap tree_of g.same ∙ g.view)

-- how a new entry stands to the tip
higher_is : (entry : Entry) (older : Tree) (spot : Spot) (tip : ℕ) → IsSpot spot entry.header older → height_of older (best older) ≡ Some tip → same (best older) (block_hash entry.header) ≡ false
    → is_higher (entry ∷ older) (block_hash entry.header) (best older) ≡ nat_lt tip spot.height
higher_is entry older spot tip is height other = rw (same-refl (block_hash entry.header), other, height, is.height) refl

-- what is known where a block that meets its rules is to join
pub record Joins (older : Tree) (block : Block) (spot : Spot) (tip : ℕ) : Type 0 where
  pub spot_is : IsSpot spot block.header older
  pub none : block_fault older block.header ≡ None
  pub kept : is_kept older (best older) ≡ true
  pub height : height_of older (best older) ≡ Some tip

joins_is : (older : Tree) (block : Block) (spot : Spot) (tip : ℕ) → Joins older block spot tip → is_higher (block_entry block ∷ older) (block_hash block.header) (best older) ≡ nat_lt tip spot.height
joins_is older block spot tip j =
    higher_is (block_entry block) older spot tip j.spot_is j.height (kept_other older (best older) (block_hash block.header) j.kept (block_free older block.header j.none).once)

pub joins_higher : (older : Tree) (block : Block) (spot : Spot) (tip : ℕ) → Joins older block spot tip → tip < spot.height → is_higher (block_entry block ∷ older) (block_hash block.header) (best older) ≡ true
joins_higher older block spot tip j above =
    let test : nat_lt tip spot.height ≡ true = grind (arith, nat_tests) in
    joins_is older block spot tip j ∙ test

pub joins_aside : (older : Tree) (block : Block) (spot : Spot) (tip : ℕ) → Joins older block spot tip → spot.height ≤ tip → is_higher (block_entry block ∷ older) (block_hash block.header) (best older) ≡ false
joins_aside older block spot tip j low =
    let test : nat_lt tip spot.height ≡ false = grind (arith, nat_tests) in
    joins_is older block spot tip j ∙ test

abbrev entry_with : Header → Block → Entry
entry_with header block = record { header = header; block = Some block; marked = false }

-- the entry of a block on its spot
pub entry_on : (spot : Spot) (block : Block) → spot.header ≡ block.header → entry_from (index_on spot (Some block) false) ≡ block_entry block
entry_on spot block header = ap (λ (h : Header). entry_with h block) header

pub joined_aside : (older new : Tree) (block : Block) (change : Moves.Change) → is_higher (block_entry block ∷ older) (block_hash block.header) (best older) ≡ false → new ≡ block_entry block ∷ older
    → change ≡ no_change → joined older block ≡ (Ok change, new)
joined_aside older new block change low grown empty = rw (low, grown, empty) refl

pub active_aside : (entry : Entry) (older : Tree) → best (entry ∷ older) ≡ best older → same (best older) (block_hash entry.header) ≡ false → active (entry ∷ older) ≡ active older
unfolding branch
active_aside entry older stays other =
    let branches : branch (entry ∷ older) (best older) ≡ branch older (best older) = rw other refl in
    ap reverse (ap (branch (entry ∷ older)) stays ∙ branches)

-- the active chain stays
pub over_aside : (older new : Tree) (block : Block) (spot : Spot) (tip : ℕ) (change : Moves.Change) → Joins older block spot tip → spot.height ≤ tip → new ≡ block_entry block ∷ older
    → change ≡ no_change → LeadsOver (active_hashes older) change (active_hashes new)
over_aside older new block spot tip change j low grown empty =
    let entry = block_entry block in
    let stays = low_best entry older (joins_aside older block spot tip j low) in
    let other = kept_other older (best older) (block_hash block.header) j.kept (block_free older block.header j.none).once in
    let whole : active_hashes older ≡ active_hashes older ++ [] = sym (append-nil (active_hashes older)) in
    let both : LeadsOver (active_hashes older) no_change (active_hashes (entry ∷ older)) =
    record { shared = active_hashes older; old_is = whole; new_is = ap (common.map block_hash) (active_aside entry older stays other) ∙ whole; apart = tt } in
    subst (λ (t : Tree). LeadsOver (active_hashes older) change (active_hashes t)) (sym grown) (subst (λ (c : Moves.Change). LeadsOver (active_hashes older) c (active_hashes (entry ∷ older))) (sym empty) both)

-- ---- what a call with a block tells

-- it is refused at once
pub told_refused : (old : Tree) (block : Block) (result : Result Moves.Change Fault) (fault : Fault) → result ≡ Err fault → HasWork block.header → block_fault old block.header ≡ Some fault
    → IfErr result (λ e. ((e ≡ Memory) × (old ≡ old)) ⊎ AcceptsBlock old block (Err e) old)
told_refused old block result fault told work is =
    subst (λ (r : Result Moves.Change Fault). IfErr r (λ e. ((e ≡ Memory) × (old ≡ old)) ⊎ AcceptsBlock old block (Err e) old)) (sym told) (inr (refused work fault is refl refl))

-- the entries of its header, alone and marked
pub bare_on : (spot : Spot) (given : Header) → spot.header ≡ given → entry_from (index_on spot None false) ≡ header_entry given
bare_on spot given header = ap header_entry header

pub bad_on : (spot : Spot) (given : Header) → spot.header ≡ given → entry_from (index_on spot None true) ≡ bad_entry given
bad_on spot given header = ap bad_entry header

-- it breaks a rule
pub told_broken : (old new : Tree) (block : Block) (fault : Fault) → HasWork block.header → block_fault old block.header ≡ None → (¬ fault ≡ Memory) → (fault ≡ Memory) ⊎ IsRefused block fault
    → new ≡ bad_entry block.header ∷ old → AcceptsBlock old block (Err fault) new
told_broken old new block fault work none other (inl memory) grown = absurd (other memory)
told_broken old new block fault work none other (inr is) grown = breaks_rule work none fault is refl grown
