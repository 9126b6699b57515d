-- The message of an honest sender's compact block (BIP 152), and the result of rebuilding it.
use Rattle.std.specs.Prelude.{◌≡◌, ℕ, List, [], length, map, slice_get, All, Some, Ok}
use Rattle.cb_base.specs.DoubleHash.{double_hash}
use Rattle.cb_block.specs.Blocks.{IsSoundBlock}
use Rattle.cb_block.specs.BlockText.{header_text}
use Rattle.cb_block.specs.declared.block.Block.{Block}
use Rattle.cb_compact.specs.Differences.{Rise, differences, sums}
use Rattle.cb_compact.specs.Forms.{left_out}
use Rattle.cb_compact.specs.Honest.{AreUnserved, id_of}
use Rattle.cb_compact.specs.Slots.{AreDifferent, Unfilled}
use Rattle.cb_compact.specs.declared.named_tx.Pair.{Pair}
use Rattle.cb_compact.specs.declared.partial.Filled.{Filled}
use Rattle.cb_compact.specs.declared.partial.Filled.TheVariants as filling
use Rattle.cb_compact.specs.declared.partial.Placed.{Placed}
use Rattle.cb_compact.specs.declared.partial.Placed.TheVariants as placing
use Rattle.cb_wire.specs.declared.block_transactions.BlockTransactions.{BlockTransactions}
use Rattle.cb_wire.specs.declared.block_transactions.BlockTransactionsRequest.{BlockTransactionsRequest}
use Rattle.cb_wire.specs.declared.compact_block.HeaderAndShortIds.{HeaderAndShortIds}
use Rattle.cb_compact.specs.Completing.{completed_of}
use Rattle.cb_compact.specs.Places.{differences_of, placed_from}
use Rattle.cb_compact.specs.Rebuilding.{request_of}
use Rattle.cb_compact.specs.declared.rebuilding.Rebuilt.{Rebuilt}
use Rattle.cb_compact.specs.declared.rebuilding.Rebuilt.TheVariants.{Lacking, Sound, Useless}

-- The message is the compact block of a sound block under its nonce. The transactions at these
-- places are prefilled, and no two short ids are equal.
pub record IsHonestMessage (block : Block) (places : List ℕ) (message : HeaderAndShortIds)
    : Type 0 where
  pub sound : IsSoundBlock block
  pub rise : Rise 0 (length block.txs) places
  pub header : message.header ≡ block.header
  pub ids : message.txs.ids ≡ map (id_of block.header message.nonce) (left_out 0 places block.txs)
  pub differences_are : differences_of message.txs.prefilled ≡ differences 0 places
  pub whole : All (λ given. slice_get block.txs given.place ≡ Some given.tx)
      (placed_from 0 message.txs.prefilled)
  pub different : AreDifferent message.txs.ids

-- The block's transactions at the requested places complete the block.
abbrev pub IsCompletedBy : Block → Unfilled → BlockTransactionsRequest → Type 0
IsCompletedBy block partial request =
    (given : BlockTransactions)
    → map (slice_get block.txs) (sums 0 request.differences) ≡ map Some given.txs
    → completed_of partial given ≡ Ok (filling.Sound block)

-- The result is the block, if a pair fills each place. Otherwise exactly the places that no pair
-- fills are requested, under the block's hash, and the block's transactions there complete it.
abbrev pub IsRebuiltTo : Block → ℕ → List ℕ → List Pair → Rebuilt → Type 0
IsRebuiltTo block nonce places pairs (Sound told) =
    AreUnserved block nonce places pairs [] × (told ≡ block)
IsRebuiltTo block nonce places pairs (Lacking partial request) =
    AreUnserved block nonce places pairs (sums 0 request.differences)
    × (request.block ≡ double_hash (header_text block.header)) × IsCompletedBy block partial request
IsRebuiltTo block nonce places pairs Useless = ⊥

-- The result for a list without empty places.
abbrev pub told_whole : Filled → Rebuilt
told_whole (filling.Sound block) = Sound block
told_whole filling.Wrong = Useless

-- The result for what was placed.
abbrev pub told_of : Placed → Rebuilt
told_of placing.Repeat = Useless
told_of (placing.Whole whole) = told_whole whole
told_of (placing.Missing places partial) = Lacking partial (request_of partial)
