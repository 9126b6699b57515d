-- Some transactions of a block, by their places in it (BIP 152, `getblocktxn` and `blocktxn`).
use Rattle.std.specs.Prelude.{◌+◌, ◌≤◌, ℕ, List, length, filter_map, slice_get}
use Rattle.cb_base.specs.declared.hash.Hash256.{Hash256}
use Rattle.cb_block.specs.declared.tx.Tx.{Tx}
use Rattle.cb_block.specs.TxText.{list_text, tx_text}

-- The block's hash, and some of its transactions.
pub record BlockPart : Type 0 where
  pub hash : Hash256
  pub txs : List Tx

-- The transactions at these places, in order. A place outside the list is skipped.
abbrev pub txs_at : List Tx → List ℕ → List Tx
txs_at txs places = filter_map (λ place. slice_get txs place) places

-- The transactions fit in a message: the hash, the count and the transactions have at most
-- 4,000,000 bytes.
abbrev pub IsCarried : List Tx → Type 0
IsCarried txs = 32 + length (list_text tx_text txs) ≤ 4000000
