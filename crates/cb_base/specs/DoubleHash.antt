-- The double hash: SHA-256 twice (FIPS 180-4). Bitcoin uses it for txids and block hashes.
use Rattle.std.specs.Prelude.{ℕ, List}
use Rattle.sha2.specs.Sha256.{sha256}
use Rattle.cb_base.specs.declared.hash.Hash256.{Hash256}

abbrev pub double_hash : List ℕ → Hash256
double_hash bytes = record { 0 = sha256 (sha256 bytes) }
