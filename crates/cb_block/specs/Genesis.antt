-- The genesis block of regtest (Bitcoin's protocol).
use Rattle.std.specs.Prelude.{ℕ, pos, List, [], ◌∷◌, codes, replicate}
use Rattle.cb_base.specs.DoubleHash.{double_hash}
use Rattle.cb_block.specs.declared.tx.TxIn.{TxIn}
use Rattle.cb_block.specs.declared.tx.TxOut.{TxOut}
use Rattle.cb_block.specs.declared.tx.Tx.{Tx}
use Rattle.cb_block.specs.TxText.{tx_text}
use Rattle.cb_block.specs.declared.header.Header.{Header}
use Rattle.cb_block.specs.declared.block.Block.{Block}

-- input script: pushes the bits of the main network's genesis block, the number 4 and a newspaper
-- headline
unfoldable pub headline : List ℕ
headline =
    4 ∷ 255 ∷ 255 ∷ 0 ∷ 29 ∷ 1 ∷ 4 ∷ 69
    ∷ codes "The Times 03/Jan/2009 Chancellor on brink of second bailout for banks"

-- output script: pushes a public key of 65 bytes, then OP_CHECKSIG
unfoldable pub to_a_key : List ℕ
to_a_key =
    65 ∷ 4 ∷ 103 ∷ 138 ∷ 253 ∷ 176 ∷ 254 ∷ 85 ∷ 72 ∷ 39 ∷ 25 ∷ 103 ∷ 241 ∷ 166 ∷ 113 ∷ 48 ∷ 183 ∷
    16 ∷ 92 ∷ 214 ∷ 168 ∷ 40 ∷ 224 ∷ 57 ∷ 9 ∷ 166 ∷ 121 ∷ 98 ∷ 224 ∷ 234 ∷ 31 ∷ 97 ∷ 222 ∷ 182 ∷
    73 ∷ 246 ∷ 188 ∷ 63 ∷ 76 ∷ 239 ∷ 56 ∷ 196 ∷ 243 ∷ 85 ∷ 4 ∷ 229 ∷ 30 ∷ 193 ∷ 18 ∷ 222 ∷ 92 ∷
    56 ∷ 77 ∷ 247 ∷ 186 ∷ 11 ∷ 141 ∷ 87 ∷ 138 ∷ 76 ∷ 112 ∷ 43 ∷ 107 ∷ 241 ∷ 29 ∷ 95 ∷ 172 ∷ []

abbrev pub genesis_input : TxIn
genesis_input = record {
  prev = record { txid = record { 0 = replicate 32 0 }; index = 4294967295 };
  script = headline;
  sequence = 4294967295;
}

abbrev pub genesis_output : TxOut
genesis_output = record { value = pos 5000000000; script = to_a_key }

abbrev pub genesis_tx : Tx
genesis_tx = record {
  version = pos 1;
  inputs = genesis_input ∷ [];
  outputs = genesis_output ∷ [];
  lock_time = 0;
}

-- its Merkle root is the txid of its only transaction
abbrev pub genesis_header : Header
genesis_header = record {
  version = pos 1;
  prev = record { 0 = replicate 32 0 };
  root = double_hash (tx_text genesis_tx);
  time = 1296688602;
  bits = 545259519;
  nonce = 2;
}

abbrev pub genesis_block : Block
genesis_block = record { header = genesis_header; txs = genesis_tx ∷ [] }
