-- The proof of work on regtest (Bitcoin's protocol): one target for all headers.
use Rattle.std.specs.Prelude.{◌≡◌, ℕ, ◌+◌, ◌*◌, ◌^◌, ◌≤◌, List, [], ◌∷◌}
use Rattle.cb_base.specs.DoubleHash.{double_hash}
use Rattle.cb_block.specs.declared.header.Header.{Header}
use Rattle.cb_block.specs.BlockText.{header_text}

-- the bytes as a little-endian number
abbrev pub little_endian : List ℕ → ℕ
little_endian [] = 0
little_endian (byte ∷ bytes) = byte + 256 * little_endian bytes

-- the header has the bits 207fffff, and its hash is at most their target: 7fffff followed by 29
-- zero bytes
abbrev pub HasWork : Header → Type 0
HasWork h =
    (h.bits ≡ 545259519) × (little_endian (double_hash (header_text h)).0 ≤ 8388607 * 256 ^ 29)
