-- The name of a transaction.
use Rattle.cb_base.specs.declared.hash.Hash256.{Hash256}
use Rattle.cb_base.specs.DoubleHash.{double_hash}
use Rattle.cb_block.specs.declared.tx.Tx.{Tx}
use Rattle.cb_block.specs.TxText.{tx_text}

-- a transaction's txid: the double SHA-256 of its serialisation, the witnesses left out
abbrev pub txid_of : Tx → Hash256
txid_of tx = double_hash (tx_text tx)
