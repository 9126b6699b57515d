-- When a list of byte strings, the serialisations of transactions, is sound under a Merkle root,
-- and why no other list is. A string of 64 bytes could also be two hashes of the tree
-- (CVE-2017-12842). A pair of equal hashes could also be a single one (CVE-2012-2459).
use Rattle.std.specs.Prelude.{◌≡◌, ◌≢◌, ℕ, ◌<◌, ◌≤◌, ◌⊎◌, List, length, map, All, Contains}
use Rattle.cb_base.specs.declared.hash.Hash256.{Hash256}
use Rattle.cb_base.specs.DoubleHash.{double_hash}
use Rattle.cb_block.specs.MerkleTree.{pair_texts, IsLevel, IsRoot, IsMutated}

-- the txids of the transactions
abbrev pub names : List (List ℕ) → List Hash256
names texts = map double_hash texts

pub record IsSound (root : Hash256) (texts : List (List ℕ)) : Type 0 where
  pub some : 0 < length texts
  pub no_size_64 : All (λ text. length text ≢ 64) texts
  pub not_mutated : ¬ IsMutated (names texts)
  pub root_is : IsRoot (names texts) root

-- The string is hashed for the tree over the texts: it is one of them, or two hashes of a level,
-- joined.
abbrev pub IsMet : List (List ℕ) → List ℕ → Type 0
IsMet texts string =
    Contains texts string
    ⊎ ((level : List Hash256) × IsLevel (names texts) level × (2 ≤ length level)
    × Contains (pair_texts level) string)

-- no hash collides: no two different strings that are hashed for either tree have the same hash
abbrev pub AreApart : List (List ℕ) → List (List ℕ) → Type 0
AreApart texts others =
    (x y : List ℕ) → (IsMet texts x ⊎ IsMet others x) → (IsMet texts y ⊎ IsMet others y)
    → double_hash x ≡ double_hash y → x ≡ y
