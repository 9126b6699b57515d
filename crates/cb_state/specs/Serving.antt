-- What a peer's requests are answered with (Bitcoin's protocol, `getdata`; BIP 152, `getblocktxn`).
-- Compact blocks and single transactions of a block are served only near the tip.
use Rattle.std.specs.Prelude.{◌+◌, ℕ, Bool, nat_le, nat_lt, if◌then◌else◌, List, length, filter_map, Option, None, Some}
use Rattle.std.specs.List.{list_all}
use Rattle.cb_base.specs.declared.fault.Fault.TheVariants.{BadIndex}
use Rattle.cb_base.specs.declared.hash.Hash256.{Hash256}
use Rattle.cb_block.specs.declared.block.Block as blocks
use Rattle.cb_block.specs.declared.tx.Tx as txs
use Rattle.cb_chain.specs.Best.{best}
use Rattle.cb_chain.specs.Entries.{Tree, block_of}
use Rattle.cb_chain.specs.Laws.{height_in}
use Rattle.cb_compact.specs.Differences.{sums}
use Rattle.cb_pool.specs.Listing.{txs_of}
use Rattle.cb_pool.specs.Rules.{named_in}
use Rattle.cb_state.specs.declared.serving_places.Excerpt.{Excerpt}
use Rattle.cb_state.specs.declared.serving_places.Excerpt.TheVariants as excerpt
use Rattle.cb_wire.specs.declared.inventory.Inventory.{Inventory}
use Rattle.cb_wire.specs.declared.inventory.Inventory.TheVariants as entry
use Rattle.cb_state.specs.declared.serving.Piece.{Piece}
use Rattle.cb_state.specs.declared.serving.Piece.TheVariants as piece
use Rattle.cb_state.specs.Parts.{txs_at}
use Rattle.cb_state.specs.State.{RelayState}

-- The block is at most `depth` below the tip's height. An unknown block counts as height 0.
abbrev pub is_within : ℕ → Tree → Hash256 → Bool
is_within depth tree hash = nat_le (height_in tree (best tree)) (height_in tree hash + depth)

abbrev pub tx_piece : Inventory → Option txs.Tx → Piece
tx_piece asked None = piece.Lacking asked
tx_piece asked (Some tx) = piece.Tx tx

abbrev pub whole_piece : Inventory → Option blocks.Block → Piece
whole_piece asked None = piece.Lacking asked
whole_piece asked (Some block) = piece.Whole block

-- A block that was asked for as a compact block: `Short` if it is near the tip, else `Whole`.
abbrev pub short_piece : Bool → Inventory → Option blocks.Block → Piece
short_piece near asked None = piece.Lacking asked
short_piece near asked (Some block) = if near then piece.Short block else piece.Whole block

-- The answer to one inventory entry. A block counts as near the tip at a depth of at most five.
abbrev pub piece_of : RelayState → Inventory → Option Piece
piece_of state (entry.Tx txid) =
    Some (tx_piece (entry.Tx txid) (named_in (txs_of state.pool.list) txid))
piece_of state (entry.Block hash) = Some (whole_piece (entry.Block hash) (block_of state.tree hash))
piece_of state (entry.CompactBlock hash) =
    Some
    (short_piece (is_within 5 state.tree hash) (entry.CompactBlock hash) (block_of state.tree hash))
piece_of state (entry.Other kind hash) = None

-- One piece for each entry of a known type, in order.
abbrev pub pieces_of : RelayState → List Inventory → List Piece
pieces_of state entries = filter_map (piece_of state) entries

-- ---- places of a block

-- Each place is below the number of transactions.
abbrev pub are_below : ℕ → List ℕ → Bool
are_below total places = list_all (λ place. nat_lt place total) places

-- The transactions at these places, or the whole block if it is too deep. A place outside the block
-- is refused.
abbrev pub excerpt_at : Bool → Hash256 → List ℕ → blocks.Block → Excerpt
excerpt_at near hash places block =
    if are_below (length block.txs) places
    then (if near
    then excerpt.Part (record { hash = hash; txs = txs_at block.txs places })
    else excerpt.Whole block)
    else excerpt.Refused BadIndex

abbrev pub excerpt_there : Bool → Hash256 → List ℕ → Option blocks.Block → Excerpt
excerpt_there near hash places None = excerpt.Absent
excerpt_there near hash places (Some block) = excerpt_at near hash places block

-- The answer for a block and the differences of places. The block must be kept and not marked bad.
-- Transactions are served up to ten below the tip.
abbrev pub excerpt_of : RelayState → Hash256 → List ℕ → Excerpt
excerpt_of state hash differences =
    excerpt_there (is_within 10 state.tree hash) hash (sums 0 differences)
    (block_of state.tree hash)
