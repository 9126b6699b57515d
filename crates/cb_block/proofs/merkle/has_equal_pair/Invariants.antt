use Rattle.std.proofs.Common.{◌*◌, take}
use Rattle.cb_block.specs.MerkleTree.{HasEqualPair}
use Rattle.cb_block.proofs.merkle.has_equal_pair.Given as goal

abbrev pub invariant-loop-k : goal.invariant-loop-k
invariant-loop-k l = HasEqualPair (take (2 * l.k) l.level) → ⊥
