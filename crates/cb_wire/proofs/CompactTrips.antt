-- The laws of compact blocks, of requests for transactions and of transactions, put together of what is read and what is written.
use Rattle.std.proofs.Common.{ℕ, zero, suc, ◌<◌, List, [], ◌∷◌, arith}
use Rattle.std.specs.List.{AllByRecursion}
use Rattle.cb_base.proofs.Fields.{AreBytes}
use Rattle.cb_wire.specs.CompactBlocks.{IsCompactBlock, compact_block_at, compact_block_text}
use Rattle.cb_wire.specs.BlockTransactions.{IsBlockTxs, IsTxsRequest, block_txs_at, block_txs_text, txs_request_at, txs_request_text}
use Rattle.cb_wire.specs.RoundTrip.{IsReadAsWritten}
use Rattle.cb_wire.proofs.Compacting.{compact_block_takes, compact_block_again}
use Rattle.cb_wire.proofs.Fetching.{txs_request_takes, txs_request_again, block_txs_takes, block_txs_again}

bytes_are : (bytes : List ℕ) → AllByRecursion (λ byte. byte < 256) bytes → AreBytes bytes
bytes_are [] are i = omega arith
bytes_are (byte ∷ bytes) are zero = are.0
bytes_are (byte ∷ bytes) are (suc i) = bytes_are bytes are.1 i

pub compact_block_trip : IsReadAsWritten compact_block_text compact_block_at IsCompactBlock
compact_block_trip = record {
  back = λ block rest is. compact_block_again block rest is;
  only = λ bytes block rest are e. let t = compact_block_takes bytes block rest (bytes_are bytes are) e in (t.0.parts, t.1);
}

pub txs_request_trip : IsReadAsWritten txs_request_text txs_request_at IsTxsRequest
txs_request_trip = record {
  back = λ request rest is. txs_request_again request rest is;
  only = λ bytes request rest are e. let t = txs_request_takes bytes request rest (bytes_are bytes are) e in (t.0.parts, t.1);
}

pub block_txs_trip : IsReadAsWritten block_txs_text block_txs_at IsBlockTxs
block_txs_trip = record {
  back = λ txs rest is. block_txs_again txs rest is;
  only = λ bytes txs rest are e. let t = block_txs_takes bytes txs rest (bytes_are bytes are) e in (t.0.parts, t.1);
}
