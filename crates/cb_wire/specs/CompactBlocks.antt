-- The payload of cmpctblock (BIP 152, HeaderAndShortIDs): a block header, a nonce, then the short
-- ids and the prefilled transactions.
use Rattle.std.specs.Prelude.{◌≡◌, ◌⊎◌, ℕ, ◌^◌, ◌<◌, List, ◌++◌, All, Ok}
use Rattle.std.specs.Int.{w64, to_le_bytes}
use Rattle.cb_base.specs.Reading.{Read, ◌>>=◌, number_at}
use Rattle.cb_block.specs.TxReading.{count_at}
use Rattle.cb_block.specs.BlockReading.{header_at}
use Rattle.cb_block.specs.BlockText.{IsHeader, header_text}
use Rattle.cb_wire.specs.declared.compact_block.HeaderAndShortIds.{HeaderAndShortIds}
use Rattle.cb_wire.specs.ShortForms.{IsPrefilled, IsShortForm, prefilled_count_at, short_form_at, short_form_text}

unfoldable pub compact_block_text : HeaderAndShortIds → List ℕ
compact_block_text c = header_text c.header ++ (to_le_bytes w64 c.nonce ++ short_form_text c.txs)

unfoldable pub compact_block_at : List ℕ → Read HeaderAndShortIds
compact_block_at bytes = do
  header ← header_at bytes
  nonce ← number_at w64 header.1
  txs ← short_form_at nonce.1
  Ok (record { header = header.0; nonce = nonce.0; txs = txs.0 }, txs.1)

-- The range of a compact block: each number is in the range of its field, each hash has 32 bytes,
-- and there are 1 to 16,666 transactions.
pub record IsCompactBlock (c : HeaderAndShortIds) : Type 0 where
  pub header : IsHeader c.header
  pub nonce : c.nonce < 2 ^ 64
  pub form : IsShortForm c.txs
  pub prefilled : All IsPrefilled c.txs.prefilled

-- reads the header, the nonce and the count of short ids
unfoldable pub compact_block_count_at : List ℕ → Read ℕ
compact_block_count_at bytes = do
  header ← header_at bytes
  nonce ← number_at w64 header.1
  count_at 6 nonce.1

-- Reading allocates: there are short ids, or there are none and the count of prefilled transactions
-- can be read.
abbrev pub CompactBlockTakesMemory : List ℕ → Type 0
CompactBlockTakesMemory bytes =
    (n : ℕ × List ℕ) × (compact_block_count_at bytes ≡ Ok n)
    × ((0 < n.0) ⊎ ((m : ℕ × List ℕ) × (prefilled_count_at 0 n.1 ≡ Ok m)))
