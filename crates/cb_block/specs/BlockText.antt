-- The serialisation of headers and blocks (Bitcoin's protocol, without the witnesses of BIP 141).
use Rattle.std.specs.Prelude.{◌≡◌, ℕ, ◌<◌, ◌^◌, List, ◌++◌, length, All, FitsSigned}
use Rattle.std.specs.Int.{w32, to_le_bytes, cast_unsigned}
use Rattle.cb_base.specs.CompactSize.{compact_text}
use Rattle.cb_block.specs.TxText.{list_text, tx_text, IsTx}
use Rattle.cb_block.specs.declared.header.Header.{Header}
use Rattle.cb_block.specs.declared.block.Block.{Block}

-- a header's 80 bytes
unfoldable pub header_text : Header → List ℕ
header_text h =
    to_le_bytes w32 (cast_unsigned w32 h.version)
    ++ (h.prev.0
    ++ (h.root.0
    ++ (to_le_bytes w32 h.time ++ (to_le_bytes w32 h.bits ++ to_le_bytes w32 h.nonce))))

-- a header in `headers`: its 80 bytes, and a count of transactions that is 0
unfoldable pub listed_header_text : Header → List ℕ
listed_header_text header = header_text header ++ compact_text 0

-- a block: its header, the count of its transactions, then each transaction
unfoldable pub block_text : Block → List ℕ
block_text b = header_text b.header ++ list_text tx_text b.txs

-- What holds of every header and block in the program: each number fits its field, each hash has 32
-- bytes.
pub record IsHeader (h : Header) : Type 0 where
  pub version : FitsSigned w32 h.version
  pub prev : length h.prev.0 ≡ 32
  pub root : length h.root.0 ≡ 32
  pub time : h.time < 2 ^ 32
  pub bits : h.bits < 2 ^ 32
  pub nonce : h.nonce < 2 ^ 32

pub record IsBlock (b : Block) : Type 0 where
  pub header : IsHeader b.header
  pub few : length b.txs < 2 ^ 64
  pub txs : All IsTx b.txs
