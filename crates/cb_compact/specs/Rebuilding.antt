-- Rebuilding a block from a compact block (BIP 152) and pairs, which are transactions of the
-- mempool with their short ids. The result is the block, or an incomplete one with a request, or
-- useless.
use Rattle.std.specs.Prelude.{ℕ, Bool, true, not, ◌&&◌, if◌then◌else◌, List, [], ◌∷◌}
use Rattle.cb_base.specs.DoubleHash.{double_hash}
use Rattle.cb_block.specs.declared.tx.Tx.{Tx}
use Rattle.cb_block.specs.Decision.{is_sound_block}
use Rattle.cb_block.specs.BlockText.{header_text}
use Rattle.cb_block.specs.declared.block.Block.{Block}
use Rattle.cb_compact.specs.Differences.{differences}
use Rattle.cb_compact.specs.Slots.{Unfilled, filled, is_among, missing, slots}
use Rattle.cb_compact.specs.declared.named_tx.Pair.{Pair}
use Rattle.cb_wire.specs.declared.block_transactions.BlockTransactionsRequest.{BlockTransactionsRequest}
use Rattle.cb_wire.specs.declared.compact_block.HeaderAndShortIds.{HeaderAndShortIds}
use Rattle.cb_compact.specs.Places.{placed_from}
use Rattle.cb_compact.specs.declared.rebuilding.Rebuilt.{Rebuilt}
use Rattle.cb_compact.specs.declared.rebuilding.Rebuilt.TheVariants.{Lacking, Sound, Useless}

-- No two ids are equal.
abbrev pub are_different : List ℕ → Bool
are_different [] = true
are_different (id ∷ others) = not (is_among id others) && are_different others

-- The block as far as it is known: the header, and the transaction at each place, if any.
unfoldable pub unfilled_of : HeaderAndShortIds → List Pair → Unfilled
unfilled_of message pairs = record {
  header = message.header;
  slots = slots message.txs.ids (placed_from 0 message.txs.prefilled) pairs;
}

-- The block with these transactions at its empty places, in order.
abbrev pub block_with : Unfilled → List Tx → Block
block_with partial txs = record { header = partial.header; txs = filled partial.slots txs }

-- The block, if it is sound.
unfoldable pub whole_of : Block → Rebuilt
whole_of block = if is_sound_block block then Sound block else Useless

-- The request for the missing transactions: the hash of the header, and the empty places as
-- differences.
unfoldable pub request_of : Unfilled → BlockTransactionsRequest
request_of partial = record {
  block = double_hash (header_text partial.header);
  differences = differences 0 (missing 0 partial.slots);
}

-- The result, by the empty places.
abbrev pub told_by : Unfilled → List ℕ → Rebuilt
told_by partial [] = whole_of (block_with partial [])
told_by partial (place ∷ others) = Lacking partial (request_of partial)

-- Equal ids make the compact block useless. Otherwise the empty places decide.
unfoldable pub rebuilt_of : HeaderAndShortIds → List Pair → Rebuilt
rebuilt_of message pairs =
    if are_different message.txs.ids
    then told_by (unfilled_of message pairs) (missing 0 (unfilled_of message pairs).slots)
    else Useless
