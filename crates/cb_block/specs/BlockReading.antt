-- Reading headers and blocks from the left, up to the first fault.
use Rattle.std.specs.Prelude.{◌≡◌, ℕ, ◌<◌, List, ◌==◌, if◌then◌else◌, Ok, Err}
use Rattle.std.specs.Int.{w32}
use Rattle.cb_base.specs.declared.fault.Fault.TheVariants.{BadBool}
use Rattle.cb_base.specs.CompactSize.{compact_at}
use Rattle.cb_base.specs.Reading.{Read, ◌>>=◌, number_at, signed_at}
use Rattle.cb_block.specs.TxReading.{hash_at, list_at, count_at, tx_at}
use Rattle.cb_block.specs.declared.header.Header.{Header}
use Rattle.cb_block.specs.declared.block.Block.{Block}

unfoldable pub header_at : List ℕ → Read Header
header_at bytes = do
  version ← signed_at w32 bytes
  prev ← hash_at version.1
  root ← hash_at prev.1
  time ← number_at w32 root.1
  bits ← number_at w32 time.1
  nonce ← number_at w32 bits.1
  Ok (
    record {
      version = version.0;
      prev = prev.0;
      root = root.0;
      time = time.0;
      bits = bits.0;
      nonce = nonce.0;
    },
    nonce.1,
  )

-- a header in `headers`, where a count of transactions other than 0 is refused
unfoldable pub listed_header_at : List ℕ → Read Header
listed_header_at bytes = do
  header ← header_at bytes
  count ← compact_at header.1
  if count.0 == 0 then Ok (header.0, count.1) else Err BadBool

-- a transaction has at least 10 bytes
unfoldable pub block_at : List ℕ → Read Block
block_at bytes = do
  header ← header_at bytes
  txs ← list_at 10 tx_at header.1
  Ok (record { header = header.0; txs = txs.0 }, txs.1)

-- the header, then the count of transactions
unfoldable pub first_count_at : List ℕ → Read ℕ
first_count_at bytes = do
  header ← header_at bytes
  count_at 10 header.1

-- reading a block allocates: its count of transactions is above 0
abbrev pub TakesMemory : List ℕ → Type 0
TakesMemory bytes = (n : ℕ × List ℕ) × (first_count_at bytes ≡ Ok n) × (0 < n.0)
