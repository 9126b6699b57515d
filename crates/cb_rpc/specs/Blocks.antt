-- A block as fields: Bitcoin Core's `getblock` (`blockToJSON` in rpc/blockchain.cpp).
use Rattle.std.specs.Prelude.{ℕ, List, ◌++◌, length, codes}
use Rattle.json.specs.Token.{Token}
use Rattle.cb_base.specs.DoubleHash.{double_hash}
use Rattle.cb_block.specs.declared.tx.Tx.{Tx}
use Rattle.cb_block.specs.TxText.{tx_text}
use Rattle.cb_block.specs.declared.block.Block.{Block}
use Rattle.cb_block.specs.Blocks.{texts}
use Rattle.cb_block.specs.Soundness.{names}
use Rattle.cb_block.specs.BlockText.{block_text}
use Rattle.cb_rpc.specs.declared.told.HeaderReport.{HeaderReport}
use Rattle.cb_rpc_call.specs.Fields.{capped, hash_item, hex_field, list_field, number_field, object_tokens, weight_of}
use Rattle.cb_rpc.specs.Headers.{header_fields}
use Rattle.cb_rpc.specs.Transactions.{tx_fields}

-- how many bytes it has
abbrev pub block_size : Block → ℕ
block_size block = capped (length (block_text block))

unfoldable pub sizes_fields : ℕ → List Token
sizes_fields size =
    number_field (codes "strippedsize") size
    ++ (number_field (codes "size") size ++ number_field (codes "weight") (weight_of size))

abbrev pub block_sizes : Block → List Token
block_sizes block = sizes_fields (block_size block)

-- a transaction of a block
unfoldable pub member_tokens : Tx → List Token
member_tokens tx =
    object_tokens (tx_fields (double_hash (tx_text tx)) tx ++ hex_field (codes "hex") (tx_text tx))

-- a block with the txids of its transactions
unfoldable pub txids_tokens : HeaderReport → Block → List Token
txids_tokens report block =
    object_tokens
    (header_fields report
    ++ (block_sizes block ++ list_field (codes "tx") hash_item (names (texts block.txs))))

-- a block with its transactions
unfoldable pub txs_tokens : HeaderReport → Block → List Token
txs_tokens report block =
    object_tokens
    (header_fields report ++ (block_sizes block ++ list_field (codes "tx") member_tokens block.txs))
