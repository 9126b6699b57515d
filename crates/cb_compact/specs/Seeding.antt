-- The seed under which a table hashes short ids: that of all ids. So a sender who chooses the ids
-- can't know beforehand which of them will collide.
use Rattle.std.specs.Prelude.{ℕ, List, flat_map}
use Rattle.std.specs.Int.{w64, to_le_bytes}
use Rattle.std.specs.declared.hash.FoldHasher.{FoldHasher}
use Rattle.cb_base.specs.Seeding.{seed_of_keys}

-- the ids one after the other, each as eight little-endian bytes
abbrev pub seed_text : List ℕ → List ℕ
seed_text ids = flat_map (to_le_bytes w64) ids

unfoldable pub seed_of : List ℕ → FoldHasher
seed_of ids = seed_of_keys (seed_text ids)
