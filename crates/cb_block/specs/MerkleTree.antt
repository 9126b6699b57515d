-- The Merkle tree over a list of hashes (Bitcoin's protocol), and when it is mutated
-- (CVE-2012-2459).
use Rattle.std.specs.Prelude.{◌≡◌, ℕ, ◌≤◌, ◌⊎◌, List, [], ◌∷◌, ◌++◌, length, map}
use Rattle.cb_base.specs.declared.hash.Hash256.{Hash256}
use Rattle.cb_base.specs.DoubleHash.{double_hash}

-- What is hashed for the level above: the hashes of a level in pairs from the left, joined. A last
-- hash without a partner is joined with itself.
abbrev pub pair_texts : List Hash256 → List (List ℕ)
pair_texts [] = []
pair_texts (last ∷ []) = (last.0 ++ last.0) ∷ []
pair_texts (left ∷ right ∷ others) = (left.0 ++ right.0) ∷ pair_texts others

-- the level above
abbrev pub up : List Hash256 → List Hash256
up level = map double_hash (pair_texts level)

-- The levels of the tree: the leaves, and above each level with two hashes or more the next one.
pub data IsLevel (leaves : List Hash256) : List Hash256 → Type 0 where
  itself : {level : List Hash256} → level ≡ leaves → IsLevel leaves level
  above : {level : List Hash256} (below : List Hash256) → IsLevel leaves below → 2 ≤ length below
      → level ≡ up below → IsLevel leaves level

-- the root is the only hash of the top level
abbrev pub IsRoot : List Hash256 → Hash256 → Type 0
IsRoot leaves root = IsLevel leaves (root ∷ [])

-- the two hashes of a pair, in pairs from the left, are equal
abbrev pub HasEqualPair : List Hash256 → Type 0
HasEqualPair [] = ⊥
HasEqualPair (last ∷ []) = ⊥
HasEqualPair (left ∷ right ∷ others) = (left ≡ right) ⊎ HasEqualPair others

-- some level has a pair of equal hashes
abbrev pub IsMutated : List Hash256 → Type 0
IsMutated leaves = (level : List Hash256) × IsLevel leaves level × HasEqualPair level
