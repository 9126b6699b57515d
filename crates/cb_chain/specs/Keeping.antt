-- How the code stores a tree: the block indexes in the order in which they were added, each with
-- what follows from those before it.
use Rattle.std.specs.Prelude.{◌≡◌, ◌+◌, ◌++◌, ◌≤◌, ◌<◌, ◌⊎◌, ◌&&◌, not, ⊤, ℕ, suc, Bool, true, false, Ok, Err, is_some, IsSome, nat_eq, if◌then◌else◌, List, [], ◌∷◌, length, take, drop, reverse, Option, None, Some, option_map, option_and_then, slice_get, slice_index_or}
use Rattle.std.specs.Prelude as lists
use Rattle.std.specs.Map.{lookup}
use Rattle.cb_base.specs.declared.fault.Fault.{Fault}
use Rattle.cb_base.specs.declared.fault.Fault.TheVariants.{BadParent, NoParent, TooMany}
use Rattle.cb_base.specs.declared.hash.Hash256.{Hash256}
use Rattle.cb_block.specs.declared.block.Block.{Block}
use Rattle.cb_block.specs.declared.header.Header.{Header}
use Rattle.cb_block.specs.Genesis.{genesis_block, genesis_header}
use Rattle.cb_chain.specs.declared.accepting.Spot.{Spot}
use Rattle.cb_chain.specs.Marking.{BlockIndex, marks_of}
use Rattle.cb_ledger.specs.declared.undo.CoinChange.{CoinChange}
use Rattle.cb_chain.specs.Entries.{Entry, Tree, block_hash, genesis_hash, same, height_of, is_kept, is_known, is_marked}
use Rattle.cb_chain.specs.Best.{active, best, branch, leads_through}
use Rattle.cb_chain.specs.Calls.{is_full_under}
use Rattle.cb_chain.specs.Following.{above_branch}

-- What contracts see of the stored tree: its block indexes, the undo record of each block that was
-- connected once, and for how many more block indexes there is room.
pub record Grown : Type 0 where
  pub block_indexes : List BlockIndex
  pub undos : List (Option (List CoinChange))
  pub room : ℕ

-- the entry of a block index, without what follows from other block indexes
abbrev pub entry_from : BlockIndex → Entry
entry_from block_index = record {
  header = block_index.header;
  block = block_index.kept;
  marked = block_index.marked;
}

-- the block indexes above the first one, the newest first
abbrev pub above_first : List BlockIndex → List BlockIndex
above_first block_indexes = reverse (drop 1 block_indexes)

abbrev pub tree_of : List BlockIndex → Tree
tree_of block_indexes = lists.map entry_from (above_first block_indexes)

-- the place of a hash's newest block index
abbrev pub place_of : Tree → Hash256 → Option ℕ
place_of [] hash = if same hash genesis_hash then Some 0 else None
place_of (entry ∷ older) hash =
    if same hash (block_hash entry.header) then Some (suc (length older)) else place_of older hash

-- The block index agrees with those before it. No block with its hash is kept before it. A kept
-- block has a kept parent, and is marked bad if the parent is.
pub record IsIndex (block_index : BlockIndex) (older : Tree) : Type 0 where
  pub hash : block_index.hash ≡ block_hash block_index.header
  pub parent : place_of older block_index.header.prev ≡ Some block_index.parent
  pub height : option_map suc (height_of older block_index.header.prev) ≡ Some block_index.height
  pub low : block_index.height ≤ 1000000000
  pub once : is_kept older block_index.hash ≡ false
  pub under : is_some block_index.kept ≡ true → is_kept older block_index.header.prev ≡ true
  pub marks : is_some block_index.kept ≡ true → is_marked older block_index.header.prev ≡ true
      → block_index.marked ≡ true

abbrev pub AreIndexes : List BlockIndex → Type 0
AreIndexes [] = ⊤
AreIndexes (block_index ∷ older) =
    IsIndex block_index (lists.map entry_from older) × AreIndexes older

-- the block index of the genesis block
pub record IsFirst (block_index : BlockIndex) : Type 0 where
  pub header : block_index.header ≡ genesis_header
  pub hash : block_index.hash ≡ genesis_hash
  pub height : block_index.height ≡ 0
  pub block : block_index.kept ≡ Some genesis_block
  pub marked : block_index.marked ≡ false

-- all block indexes agree with those before them
abbrev pub IsTree : List BlockIndex → Type 0
IsTree [] = ⊥
IsTree (first ∷ others) = IsFirst first × AreIndexes (reverse others)

-- the block indexes make a tree, and the map has the place of each hash
pub record IsPlaced (block_indexes : List BlockIndex) (entries : List (Hash256 × ℕ)) : Type 0 where
  pub tree : IsTree block_indexes
  pub places : (hash : Hash256) → lookup (same hash) entries ≡ place_of (tree_of block_indexes) hash

-- the places of the kept blocks on top of the block index at a place, the newest first
abbrev pub above_at : List BlockIndex → ℕ → List ℕ
above_at [] place = []
above_at (block_index ∷ older) place =
    if is_some block_index.kept && nat_eq block_index.parent place
    then suc (length older) ∷ above_at older place
    else above_at older place

-- A linked list of places: each leads to the one before it, and the last to 0.
abbrev pub AreLinked : List ℕ → ℕ → List ℕ → Type 0
AreLinked elder newest [] = newest ≡ 0
AreLinked elder newest (place ∷ places) =
    (newest ≡ place) × (0 < place) × (place < length elder)
    × AreLinked elder (slice_index_or elder place 0) places

-- the links lead to the kept blocks on top of each block index
pub record AreLinks (block_indexes : List BlockIndex) (newest elder : List ℕ) : Type 0 where
  pub newest_long : length newest ≡ length block_indexes
  pub elder_long : length elder ≡ length block_indexes
  pub each : (place : ℕ)
      → AreLinked elder (slice_index_or newest place 0) (above_at (above_first block_indexes) place)

abbrev pub block_at : List BlockIndex → ℕ → Option Block
block_at block_indexes place =
    option_and_then (λ block_index. block_index.kept) (slice_get block_indexes place)

-- these are the marks and the links of a tree that has a block at a place
pub record IsMarked (block_indexes : List BlockIndex) (marks : List Bool) (newest elder : List ℕ)
    (first : ℕ) : Type 0 where
  pub tree : IsTree block_indexes
  pub links : AreLinks block_indexes newest elder
  pub kept : IsSome (block_at block_indexes first)
  pub marks_are : marks ≡ marks_of block_indexes

-- An entry on the path from the genesis block to a known header, with its place among the block
-- indexes.
pub record Step : Type 0 where
  pub place : ℕ
  pub entry : Entry

-- the path from a known header down to the lowest above the genesis block
unfoldable pub way : Tree → Hash256 → List Step
way [] hash = []
way (entry ∷ older) hash =
    if same hash (block_hash entry.header)
    then record { place = suc (length older); entry = entry } ∷ way older entry.header.prev
    else way older hash

-- the same path from the lowest up: its n-th entry, from 0, has the height n + 1
abbrev pub climb : Tree → Hash256 → List Step
climb tree hash = reverse (way tree hash)

-- the places of the active chain's block indexes by height
abbrev pub active_places : Tree → List ℕ
active_places tree = 0 ∷ lists.map (λ step. step.place) (climb tree (best tree))

-- The fork of a branch with the active chain: the height of the highest header on both. The clauses
-- say what is above it on the active chain, and that a kept block's path below it is the active
-- chain's.
pub record IsFork (tree : Tree) (hash : Hash256) (fork : ℕ) : Type 0 where
  pub low : fork < length (active tree)
  pub short : fork ≤ length (way tree hash)
  pub above : above_branch (branch tree hash) (active tree) ≡ drop (suc fork) (active tree)
  pub below : is_kept tree hash ≡ true
      → take fork (climb tree hash) ≡ take fork (climb tree (best tree))

-- where a header goes on top of its parent
pub record IsSpot (spot : Spot) (given : Header) (older : Tree) : Type 0 where
  pub header : spot.header ≡ given
  pub hash : spot.hash ≡ block_hash given
  pub parent : place_of older given.prev ≡ Some spot.parent
  pub height : option_map suc (height_of older given.prev) ≡ Some spot.height
  pub low : spot.height ≤ 1000000000

-- the block index of a header that goes there
abbrev pub index_on : Spot → Option Block → Bool → BlockIndex
index_on spot kept marked = record {
  header = spot.header;
  hash = spot.hash;
  height = spot.height;
  parent = spot.parent;
  kept = kept;
  marked = marked;
}

-- the first reason against a parent, for a header or for a block
abbrev pub parent_fault : Tree → Hash256 → Bool → Option Fault
parent_fault tree parent block =
    if not (is_known tree parent) then Some NoParent
    else (if is_marked tree parent then Some BadParent
    else (if block && not (is_kept tree parent) then Some NoParent
    else (if is_full_under tree parent then Some TooMany else None)))

-- The block indexes above the first one, the newest first, with a block and all kept ones above it
-- marked bad.
abbrev pub mark_index : Hash256 → Tree → BlockIndex → BlockIndex
mark_index first older block_index =
    if is_some block_index.kept
    && leads_through (entry_from block_index ∷ older) first (block_hash block_index.header)
    then record {
      header = block_index.header;
      hash = block_index.hash;
      height = block_index.height;
      parent = block_index.parent;
      kept = block_index.kept;
      marked = true;
    }
    else block_index

abbrev pub mark_indexes : Hash256 → List BlockIndex → List BlockIndex
mark_indexes first [] = []
mark_indexes first (block_index ∷ older) =
    mark_index first (lists.map entry_from older) block_index ∷ mark_indexes first older

abbrev pub marked_indexes : Hash256 → List BlockIndex → List BlockIndex
marked_indexes first [] = []
marked_indexes first (lowest ∷ others) = lowest ∷ reverse (mark_indexes first (reverse others))
