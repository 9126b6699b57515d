-- Short ids (BIP 152): the low six bytes of the SipHash-2-4 of a txid, under a key from the header
-- and a nonce.
use Rattle.std.specs.Prelude.{ℕ, ◌%◌, ◌^◌, List, ◌++◌, take, drop}
use Rattle.std.specs.Int.{w64, from_le_bytes, to_le_bytes}
use Rattle.sha2.specs.Sha256.{sha256}
use Rattle.cb_base.specs.SipHash.{siphash_2_4}
use Rattle.cb_base.specs.declared.hash.Hash256.{Hash256}
use Rattle.cb_block.specs.BlockText.{header_text}
use Rattle.cb_block.specs.declared.header.Header.{Header}

-- the SHA-256 from which the key is made: of the header's 80 bytes and the nonce's 8
abbrev pub key_hash : Header → ℕ → List ℕ
key_hash header nonce = sha256 (header_text header ++ to_le_bytes w64 nonce)

-- the key: the first two words of that hash, each of eight bytes, little-endian
unfoldable pub key_of : Header → ℕ → ℕ × ℕ
key_of header nonce = (
  from_le_bytes w64 (take 8 (key_hash header nonce)),
  from_le_bytes w64
      (take 8 (drop 8 (key_hash header nonce))),
)

-- the short id of a txid: the low six bytes
unfoldable pub short_id_of : ℕ × ℕ → Hash256 → ℕ
short_id_of key txid = siphash_2_4 key.0 key.1 txid.0 % 2 ^ 48
