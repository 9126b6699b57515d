-- What is told of the Merkle tree over hashes.
use Rattle.std.specs.Prelude.{◌≡◌, ℕ, ◌≤◌, ◌⊎◌, List, length}
use Rattle.cb_base.specs.declared.fault.Fault.{Fault}
use Rattle.cb_base.specs.declared.fault.Fault.TheVariants.{Empty, Memory}
use Rattle.cb_base.specs.declared.hash.Hash256.{Hash256}
use Rattle.cb_block.specs.MerkleTree.{IsMutated, IsRoot}

-- the root, and the mark: 1 for a mutated tree, 0 for another
abbrev pub IsTreeOf : List Hash256 → Hash256 → ℕ → Type 0
IsTreeOf hashes root mark =
    IsRoot hashes root × (((mark ≡ 1) × IsMutated hashes) ⊎ ((mark ≡ 0) × (¬ IsMutated hashes)))

-- there are no hashes, or there are two or more and memory ran out
abbrev pub HasNoTree : {A : Type 0} → List A → Fault → Type 0
HasNoTree hashes fault =
    ((fault ≡ Empty) × (length hashes ≡ 0)) ⊎ ((fault ≡ Memory) × (2 ≤ length hashes))
