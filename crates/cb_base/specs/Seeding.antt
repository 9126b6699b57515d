-- The seed of a hash table: a hasher that was fed some bytes.
use Rattle.std.specs.Prelude.{ℕ, List}
use Rattle.std.specs.Hash.FoldHasher.{initial, write}
use Rattle.std.specs.declared.hash.FoldHasher.{FoldHasher}
use Rattle.sha2.specs.Hashers.{Holds256}
use Rattle.sha2.specs.Sha256.{sha256}
use Rattle.cb_base.specs.declared.seed.Keys.{Keys}

-- the one that is the same everywhere
abbrev pub fixed_seed : FoldHasher
fixed_seed = initial

-- the one that these bytes make
unfoldable pub seed_of : List ℕ → FoldHasher
seed_of bytes = write initial bytes

-- The one that keys make: that of their SHA-256 (FIPS 180-4). The text is the bytes of the keys,
-- one key after the other.
unfoldable pub seed_of_keys : List ℕ → FoldHasher
seed_of_keys text = seed_of (sha256 text)

-- these are the bytes of the keys, one key after the other
abbrev pub AreKeys : Keys → List ℕ → Type 0
AreKeys keys text = Holds256 keys.digest text
