use Rattle.std.proofs.Common.{◌≡◌, ◌*◌, ◌++◌, take, drop}
use Rattle.cb_block.specs.MerkleTree.{up}
use Rattle.cb_block.proofs.merkle.raise.Given as goal

abbrev pub invariant-loop-k : goal.invariant-loop-k
invariant-loop-k l = l.level.items ≡ up (take (2 * l.k) l.fn.level.items) ++ drop l.k l.fn.level.items
