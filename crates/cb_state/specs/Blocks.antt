-- What a chain tells of a block.
use Rattle.std.specs.Prelude.{◌≡◌, ◌↔◌, Bool, true, ◌&&◌, not, length, Contains, Option, Some, None, is_some, option_map}
use Rattle.cb_base.specs.declared.hash.Hash256.{Hash256}
use Rattle.cb_block.specs.declared.block.Block as blocks
use Rattle.cb_chain.specs.Entries.{Tree, block_of, height_of, is_lacking}
use Rattle.cb_chain.specs.Laws.{active_hashes}
use Rattle.cb_state.specs.declared.blocks.BlockLook.{BlockLook}

-- Its height, how many transactions it has if it is kept and not marked bad, and whether it is on
-- the best chain; nothing if its header isn't known.
abbrev pub IsBlockLook : Tree → Hash256 → Option BlockLook → Type 0
IsBlockLook tree hash None = height_of tree hash ≡ None
IsBlockLook tree hash (Some look) =
    (height_of tree hash ≡ Some look.height)
    × (look.txs ≡ option_map (λ (block : blocks.Block). length block.txs) (block_of tree hash))
    × ((look.best ≡ true) ↔ Contains (active_hashes tree) hash)

-- A block that is marked bad neither lacks nor is shown.
abbrev pub is_marked_in : Tree → Hash256 → Bool
is_marked_in tree hash = not (is_lacking tree hash) && not (is_some (block_of tree hash))
