-- The payloads of getblocktxn and blocktxn (BIP 152, BlockTransactionsRequest and
-- BlockTransactions).
use Rattle.std.specs.Prelude.{◌≡◌, ℕ, ◌^◌, ◌<◌, ◌≤◌, List, ◌++◌, length, All, Ok}
use Rattle.cb_base.specs.CompactSize.{compact_at, compact_text}
use Rattle.cb_base.specs.Reading.{Read, ◌>>=◌}
use Rattle.cb_block.specs.TxReading.{count_at, hash_at, list_at, tx_at}
use Rattle.cb_block.specs.TxText.{IsTx, list_text, tx_text}
use Rattle.cb_wire.specs.declared.block_transactions.BlockTransactions.{BlockTransactions}
use Rattle.cb_wire.specs.declared.block_transactions.BlockTransactionsRequest.{BlockTransactionsRequest}
use Rattle.cb_wire.specs.Lists.{limited_at, listed_at}

-- ---- getblocktxn: a block's hash, and at most 16,666 differentially encoded indexes

unfoldable pub txs_request_text : BlockTransactionsRequest → List ℕ
txs_request_text r = r.block.0 ++ list_text compact_text r.differences

unfoldable pub txs_request_at : List ℕ → Read BlockTransactionsRequest
txs_request_at bytes = do
  block ← hash_at bytes
  differences ← listed_at 16666 1 compact_at block.1
  Ok (record { block = block.0; differences = differences.0 }, differences.1)

pub record IsTxsRequest (r : BlockTransactionsRequest) : Type 0 where
  pub block : length r.block.0 ≡ 32
  pub few : length r.differences ≤ 16666
  pub differences : All (λ difference. difference < 2 ^ 64) r.differences

-- reads the hash and the count of differences
unfoldable pub txs_request_count_at : List ℕ → Read ℕ
txs_request_count_at bytes = do
  block ← hash_at bytes
  limited_at 16666 1 block.1

-- reading allocates: there are differences
abbrev pub TxsRequestTakesMemory : List ℕ → Type 0
TxsRequestTakesMemory bytes = (n : ℕ × List ℕ) × (txs_request_count_at bytes ≡ Ok n) × (0 < n.0)

-- ---- blocktxn: a block's hash, then a count and that many transactions

unfoldable pub block_txs_text : BlockTransactions → List ℕ
block_txs_text b = b.block.0 ++ list_text tx_text b.txs

-- a transaction has at least 10 bytes
unfoldable pub block_txs_at : List ℕ → Read BlockTransactions
block_txs_at bytes = do
  block ← hash_at bytes
  txs ← list_at 10 tx_at block.1
  Ok (record { block = block.0; txs = txs.0 }, txs.1)

pub record IsBlockTxs (b : BlockTransactions) : Type 0 where
  pub block : length b.block.0 ≡ 32
  pub few : length b.txs < 2 ^ 64
  pub txs : All IsTx b.txs

-- reads the hash and the count of transactions
unfoldable pub block_txs_count_at : List ℕ → Read ℕ
block_txs_count_at bytes = do
  block ← hash_at bytes
  count_at 10 block.1

-- reading allocates: there are transactions
abbrev pub BlockTxsTakesMemory : List ℕ → Type 0
BlockTxsTakesMemory bytes = (n : ℕ × List ℕ) × (block_txs_count_at bytes ≡ Ok n) × (0 < n.0)
