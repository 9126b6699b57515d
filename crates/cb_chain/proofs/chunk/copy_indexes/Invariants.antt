use Rattle.std.proofs.Common.{◌≡◌, ◌≤◌, take, vec_capacity}
use Rattle.cb_chain.proofs.chunk.copy_indexes.Given as goal

abbrev pub invariant-loop-block_index : goal.invariant-loop-block_index
invariant-loop-block_index l = (l.copies.items ≡ take l.block_index-index l.block_indexes) × (l.count ≤ vec_capacity l.copies)
