-- The length of a double hash.
use Rattle.std.proofs.Common.{◌≡◌, ℕ, List, length}
use Rattle.sha2.specs.Sha256.{sha256}
use Rattle.sha2.proofs.Facts256.{length-sha256}
use Rattle.cb_base.specs.DoubleHash.{double_hash}

-- a double hash has 32 bytes
pub length-double_hash : (bytes : List ℕ) → length (double_hash bytes).0 ≡ 32
length-double_hash bytes = length-sha256 (sha256 bytes)
