-- The headers and blocks that are kept (Bitcoin's protocol): a tree in which each names its parent
-- by hash.
use Rattle.std.specs.Prelude.{ℕ, suc, Bool, false, ◌&&◌, not, nat_eq, is_some, if◌then◌else◌, List, [], ◌∷◌, Option, None, Some, option_map, option_and_then}
use Rattle.std.specs.Cmp.Lexicographic.{pointwise}
use Rattle.cb_base.specs.declared.hash.Hash256.{Hash256}
use Rattle.cb_base.specs.DoubleHash.{double_hash}
use Rattle.cb_block.specs.declared.header.Header.{Header}
use Rattle.cb_block.specs.declared.block.Block.{Block}
use Rattle.cb_block.specs.Genesis.{genesis_header, genesis_block}
use Rattle.cb_block.specs.BlockText.{header_text}

-- A kept header, its block if that is kept, and whether it is marked bad.
pub record Entry : Type 0 where
  pub header : Header
  pub block : Option Block
  pub marked : Bool

-- All entries above the genesis block, the newest first. If a hash has two entries, the newer one
-- counts: the block came after its header.
abbrev pub Tree : Type 0
Tree = List Entry

-- the hash of a block
abbrev pub block_hash : Header → Hash256
block_hash header = double_hash (header_text header)

unfoldable pub genesis_hash : Hash256
genesis_hash = block_hash genesis_header

abbrev pub same : Hash256 → Hash256 → Bool
same a b = pointwise nat_eq a.0 b.0

-- the genesis block is always in the tree
abbrev pub first_entry : Entry
first_entry = record { header = genesis_header; block = Some genesis_block; marked = false }

-- the entry of a hash
abbrev pub entry_of : Tree → Hash256 → Option Entry
entry_of [] hash = if same hash genesis_hash then Some first_entry else None
entry_of (entry ∷ older) hash =
    if same hash (block_hash entry.header) then Some entry else entry_of older hash

-- The height of a known header: one more than that of its parent, which was known before it.
abbrev pub height_of : Tree → Hash256 → Option ℕ
height_of [] hash = if same hash genesis_hash then Some 0 else None
height_of (entry ∷ older) hash =
    if same hash (block_hash entry.header)
    then option_map suc (height_of older entry.header.prev)
    else height_of older hash

abbrev pub has_mark : Option Entry → Bool
has_mark None = false
has_mark (Some entry) = entry.marked

abbrev pub has_block : Option Entry → Bool
has_block None = false
has_block (Some entry) = is_some entry.block

-- the header of this hash is known
abbrev pub is_known : Tree → Hash256 → Bool
is_known tree hash = is_some (entry_of tree hash)

-- the hash is marked bad
abbrev pub is_marked : Tree → Hash256 → Bool
is_marked tree hash = has_mark (entry_of tree hash)

-- the block of this hash is kept
abbrev pub is_kept : Tree → Hash256 → Bool
is_kept tree hash = has_block (entry_of tree hash)

-- the block is missing: neither kept nor marked bad
abbrev pub is_lacking : Tree → Hash256 → Bool
is_lacking tree hash = not (is_kept tree hash) && not (is_marked tree hash)

-- the block of an entry that isn't marked bad
abbrev pub sound_block : Entry → Option Block
sound_block entry = if entry.marked then None else entry.block

-- the block that is returned for a hash
abbrev pub block_of : Tree → Hash256 → Option Block
block_of tree hash = option_and_then sound_block (entry_of tree hash)
