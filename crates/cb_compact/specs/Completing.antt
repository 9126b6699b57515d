-- Completing a block with the transactions that it lacked (BIP 152, BlockTransactions).
use Rattle.std.specs.Prelude.{◌==◌, if◌then◌else◌, length, Result, Ok, Err}
use Rattle.cb_base.specs.declared.fault.Fault.{Fault}
use Rattle.cb_base.specs.declared.fault.Fault.TheVariants.{WrongCount}
use Rattle.cb_block.specs.Decision.{is_sound_block}
use Rattle.cb_block.specs.declared.block.Block.{Block}
use Rattle.cb_compact.specs.Slots.{Unfilled, missing}
use Rattle.cb_compact.specs.declared.partial.Filled.{Filled}
use Rattle.cb_compact.specs.declared.partial.Filled.TheVariants.{Sound, Wrong}
use Rattle.cb_wire.specs.declared.block_transactions.BlockTransactions.{BlockTransactions}
use Rattle.cb_compact.specs.Rebuilding.{block_with}

-- The block, if it is sound.
unfoldable pub judged_of : Block → Filled
judged_of block = if is_sound_block block then Sound block else Wrong

-- The transactions fill the empty places in order. There must be as many as empty places.
unfoldable pub completed_of : Unfilled → BlockTransactions → Result Filled Fault
completed_of partial given =
    if length given.txs == length (missing 0 partial.slots)
    then Ok (judged_of (block_with partial given.txs))
    else Err WrongCount
