-- Transactions that a network relays: each spends one output of another, and nothing else.
use Rattle.std.specs.Prelude.{ℕ, ◌+◌, ℤ, pos, int_div, List, [], ◌∷◌, map, replicate}
use Rattle.std.specs.List.{range_with_len}
use Rattle.cb_base.specs.DoubleHash.{double_hash}
use Rattle.cb_base.specs.declared.hash.Hash256.{Hash256}
use Rattle.cb_block.specs.TxText.{tx_text}
use Rattle.cb_block.specs.declared.tx.OutPoint.{OutPoint}
use Rattle.cb_block.specs.declared.tx.TxOut.{TxOut}
use Rattle.cb_block.specs.declared.tx.Tx.{Tx}

abbrev pub outpoint : Hash256 → ℕ → OutPoint
outpoint txid index = record { txid = txid; index = index }

-- the output at a place of a transaction
abbrev pub output_of : Tx → ℕ → OutPoint
output_of tx index = outpoint (double_hash (tx_text tx)) index

-- an output of this value whose script is so many times OP_1
abbrev pub paying : ℤ → ℕ → TxOut
paying value room = record { value = value; script = replicate room 81 }

-- the transaction that spends an output, and makes so many of this value
abbrev pub spending : OutPoint → ℕ → ℤ → ℕ → Tx
spending prev count value room = record {
  version = pos 1;
  inputs = record { prev = prev; script = []; sequence = 4294967295 } ∷ [];
  outputs = replicate count (paying value room);
  lock_time = 0;
}

-- an equal part of the 50 bitcoins of a coinbase for each of so many outputs, and one for the miner
abbrev pub share : ℕ → ℤ
share count = int_div (pos 5000000000) (pos (count + 1))

-- the first outputs of a transaction
abbrev pub first_outputs : Tx → ℕ → List OutPoint
first_outputs tx count = map (output_of tx) (range_with_len 0 count)
