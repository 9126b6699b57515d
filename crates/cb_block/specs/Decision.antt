-- Whether a block is sound, decided from the leaves of its Merkle tree up (Bitcoin's protocol). A
-- 64-byte transaction could be read as two hashes of the tree (CVE-2017-12842). Equal neighbours
-- could stand for a single hash (CVE-2012-2459).
use Rattle.std.specs.Prelude.{ℕ, zero, suc, Bool, false, not, ◌&&◌, ◌||◌, ◌==◌, List, [], ◌∷◌, length}
use Rattle.std.specs.List.{list_all}
use Rattle.std.specs.Str.{bytes_eq}
use Rattle.cb_base.specs.declared.hash.Hash256.{Hash256}
use Rattle.cb_block.specs.declared.block.Block.{Block}
use Rattle.cb_block.specs.MerkleTree.{up}
use Rattle.cb_block.specs.Soundness.{names}
use Rattle.cb_block.specs.Blocks.{texts}

-- Some pair of neighbours, counted by twos from the left, is equal.
abbrev pub has_equal_pair : List Hash256 → Bool
has_equal_pair [] = false
has_equal_pair (last ∷ []) = false
has_equal_pair (left ∷ right ∷ others) = bytes_eq left.0 right.0 || has_equal_pair others

-- Whether a level of the tree leads to the root. An empty level has no root. A single hash is its
-- own root. A longer level must have no equal pair, and the level above it is checked the same way.
abbrev pub rises_to : Hash256 → ℕ → List Hash256 → Bool
rises_to root steps [] = false
rises_to root steps (only ∷ []) = bytes_eq only.0 root.0
rises_to root zero level = false
rises_to root (suc steps) level = not (has_equal_pair level) && rises_to root steps (up level)

-- No string has 64 bytes.
abbrev pub has_no_size_64 : List (List ℕ) → Bool
has_no_size_64 strings = list_all (λ string. not (length string == 64)) strings

-- No transaction has 64 bytes, there is at least one, and the txids lead to the Merkle root in the
-- header. Each level is half as long as the one below, rounded up, so as many steps as there are
-- transactions are enough.
unfoldable pub is_sound_block : Block → Bool
is_sound_block b =
    has_no_size_64 (texts b.txs) && rises_to b.header.root (length b.txs) (names (texts b.txs))

-- Whether hashes decide: the block has transactions, and none of 64 bytes.
abbrev pub is_hashed : Block → Bool
is_hashed b = not (length b.txs == 0) && has_no_size_64 (texts b.txs)
