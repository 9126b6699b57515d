-- The payloads of sendcmpct (BIP 152) and getheaders.
use Rattle.std.specs.Prelude.{◌≡◌, ℕ, ◌^◌, ◌<◌, ◌≤◌, Bool, true, false, List, ◌∷◌, ◌++◌, length, ◌==◌, if◌then◌else◌, All, Ok, Err}
use Rattle.std.specs.Int.{w8, w32, w64, to_le_bytes}
use Rattle.cb_base.specs.declared.fault.Fault.TheVariants.{BadBool}
use Rattle.cb_base.specs.Reading.{Read, ◌>>=◌, number_at}
use Rattle.cb_block.specs.TxReading.{hash_at}
use Rattle.cb_block.specs.TxText.{list_text}
use Rattle.cb_wire.specs.declared.requests.CompactRelay.{CompactRelay}
use Rattle.cb_wire.specs.declared.requests.HeadersRequest.{HeadersRequest}
use Rattle.cb_wire.specs.Lists.{IsHash, hash_text, limited_at, listed_at}

-- ---- sendcmpct: a flag and a version

-- a flag: one byte, 0 or 1
unfoldable pub flag_at : List ℕ → Read Bool
flag_at bytes = do
  n ← number_at w8 bytes
  if n.0 == 0 then Ok (false, n.1) else (if n.0 == 1 then Ok (true, n.1) else Err BadBool)

unfoldable pub compact_relay_text : CompactRelay → List ℕ
compact_relay_text r = (if r.high_bandwidth then 1 else 0) ∷ to_le_bytes w64 r.version

-- a bad flag is refused before the version is read
unfoldable pub compact_relay_at : List ℕ → Read CompactRelay
compact_relay_at bytes = do
  flag ← flag_at bytes
  version ← number_at w64 flag.1
  Ok (record { high_bandwidth = flag.0; version = version.0 }, version.1)

-- ---- getheaders: a version, a locator of at most 101 hashes, and the hash to stop at

unfoldable pub request_text : HeadersRequest → List ℕ
request_text r = to_le_bytes w32 r.version ++ (list_text hash_text r.locator ++ r.stop.0)

unfoldable pub request_at : List ℕ → Read HeadersRequest
request_at bytes = do
  version ← number_at w32 bytes
  locator ← listed_at 101 32 hash_at version.1
  stop ← hash_at locator.1
  Ok (record { version = version.0; locator = locator.0; stop = stop.0 }, stop.1)

pub record IsRequest (r : HeadersRequest) : Type 0 where
  pub version : r.version < 2 ^ 32
  pub few : length r.locator ≤ 101
  pub locator : All IsHash r.locator
  pub stop : length r.stop.0 ≡ 32

-- reads the version and the count of hashes
unfoldable pub request_count_at : List ℕ → Read ℕ
request_count_at bytes = do
  version ← number_at w32 bytes
  limited_at 101 32 version.1

-- reading allocates: the locator isn't empty
abbrev pub TakesMemory : List ℕ → Type 0
TakesMemory bytes = (n : ℕ × List ℕ) × (request_count_at bytes ≡ Ok n) × (0 < n.0)
