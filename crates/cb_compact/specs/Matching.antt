-- Which transactions of a pool may fill a compact block (BIP 152): those whose short ids are among
-- the block's.
use Rattle.std.specs.Prelude.{ℕ, List, map, filter}
use Rattle.cb_block.specs.declared.tx.Tx.{Tx}
use Rattle.cb_compact.specs.ShortIds.{short_id_of}
use Rattle.cb_compact.specs.Slots.{is_among}
use Rattle.cb_compact.specs.declared.named_tx.Pair.{Pair}
use Rattle.cb_block.specs.Txid.{txid_of}

-- a transaction with its short id under a key
abbrev pub pair_of : ℕ × ℕ → Tx → Pair
pair_of key tx = record { id = short_id_of key (txid_of tx); tx = tx }

-- the transactions whose short ids under the key are among `ids`, in order, each with its short id
unfoldable pub pairs_of : ℕ × ℕ → List ℕ → List Tx → List Pair
pairs_of key ids txs = filter (λ pair. is_among pair.id ids) (map (pair_of key) txs)
