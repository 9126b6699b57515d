use Rattle.std.proofs.Common.{◌≡◌, ◌*◌, ◌++◌, take, drop}
use Rattle.cb_block.specs.MerkleTree.{up}
use Rattle.cb_block.proofs.merkle.raise_fours.Given as goal

abbrev pub invariant-loop-i : goal.invariant-loop-i
invariant-loop-i l = l.level ≡ up (take (2 * (4 * l.i)) l.fn.level) ++ drop (4 * l.i) l.fn.level
