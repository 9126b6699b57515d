-- What a request for some of a block's transactions is answered with (BIP 152, BlockTransactions).
use Rattle.std.specs.Prelude.{ℕ, ◌⊎◌, Bool, nat_lt, if◌then◌else◌, List, filter_map, length, slice_get, IsOk, Result, Ok, Err}
use Rattle.std.specs.List.{list_all}
use Rattle.cb_base.specs.Reading.{◌>>=◌}
use Rattle.cb_base.specs.declared.fault.Fault.{Fault}
use Rattle.cb_base.specs.declared.fault.Fault.TheVariants.{BadIndex}
use Rattle.cb_block.specs.BlockReading.{TakesMemory, block_at}
use Rattle.cb_compact.specs.Differences.{sums}
use Rattle.cb_wire.specs.BlockTransactions.{block_txs_text, txs_request_at}
use Rattle.cb_wire.specs.declared.block_transactions.BlockTransactionsRequest.{BlockTransactionsRequest}
use Rattle.cb_relay.specs.WholeMessages.{all_of}
use Rattle.cb_block.specs.declared.tx.Tx.{Tx}

-- Each place is below the number of transactions.
abbrev pub are_below : ℕ → List ℕ → Bool
are_below total places = list_all (λ place. nat_lt place total) places

-- The transactions at these places, in order. A place outside the list is skipped.
abbrev pub txs_at : List Tx → List ℕ → List Tx
txs_at txs places = filter_map (λ place. slice_get txs place) places

-- The transactions that are asked for, under the hash in the request.
abbrev pub served_of : List Tx → BlockTransactionsRequest → Result (List ℕ) Fault
served_of txs asked =
    if are_below (length txs) (sums 0 asked.differences)
    then Ok
    (block_txs_text
    (record { block = asked.block; txs = txs_at txs (sums 0 asked.differences) }))
    else Err BadIndex

-- The block is read first, then the request.
unfoldable pub served_in : List ℕ → List ℕ → Result (List ℕ) Fault
served_in block request = do
  read ← all_of (block_at block)
  asked ← all_of (txs_request_at request)
  served_of read.txs asked

-- Memory was asked for: the block counts transactions, or it was read whole.
abbrev pub ServingTakesMemory : List ℕ → Type 0
ServingTakesMemory block = TakesMemory block ⊎ IsOk (all_of (block_at block))
