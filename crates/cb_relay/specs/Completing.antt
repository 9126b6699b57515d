-- What comes of completing a block with the transactions of a `blocktxn` (BIP 152).
use Rattle.std.specs.Prelude.{ℕ, ◌==◌, if◌then◌else◌, List, [], length, Result, Ok, Err}
use Rattle.cb_base.specs.Reading.{◌>>=◌}
use Rattle.cb_base.specs.declared.fault.Fault.{Fault}
use Rattle.cb_base.specs.declared.fault.Fault.TheVariants.{WrongCount}
use Rattle.cb_block.specs.BlockText.{block_text}
use Rattle.cb_compact.specs.declared.partial.Filled.{Filled}
use Rattle.cb_compact.specs.declared.partial.Filled.TheVariants as filling
use Rattle.cb_wire.specs.BlockTransactions.{block_txs_at}
use Rattle.cb_wire.specs.declared.block_transactions.BlockTransactions.{BlockTransactions}
use Rattle.cb_compact.specs.Completing.{completed_of}
use Rattle.cb_compact.specs.Rebuilding.{rebuilt_of}
use Rattle.cb_compact.specs.declared.rebuilding.Rebuilt.{Rebuilt}
use Rattle.cb_compact.specs.declared.rebuilding.Rebuilt.TheVariants as rebuilding
use Rattle.cb_relay.specs.Rebuilding.{pairs_under}
use Rattle.cb_relay.specs.WholeMessages.{all_of, form_in, txs_in}
use Rattle.cb_relay.specs.declared.rebuilding.Kind.{Kind}
use Rattle.cb_relay.specs.declared.rebuilding.Kind.TheVariants as kinds

-- The block, or useless if it isn't sound.
abbrev pub filled_answer : Filled → Kind × List ℕ
filled_answer (filling.Sound block) = (kinds.Block, block_text block)
filled_answer filling.Wrong = (kinds.Useless, [])

-- The transactions complete what was rebuilt. Where nothing is missing, there must be none.
abbrev pub completed_answer : Rebuilt → BlockTransactions → Result (Kind × List ℕ) Fault
completed_answer (rebuilding.Sound block) more =
    if length more.txs == 0 then Ok (kinds.Block, block_text block) else Err WrongCount
completed_answer (rebuilding.Lacking partial request) more =
    completed_of partial more >>= λ filled. Ok (filled_answer filled)
completed_answer rebuilding.Useless more = Ok (kinds.Useless, [])

-- The message is read first, then the transactions, then the payload of the `blocktxn`.
unfoldable pub completed_in : List ℕ → List ℕ → List ℕ → Result (Kind × List ℕ) Fault
completed_in message txs more = do
  form ← form_in message
  given ← txs_in txs
  others ← all_of (block_txs_at more)
  completed_answer (rebuilt_of form (pairs_under form given)) others
