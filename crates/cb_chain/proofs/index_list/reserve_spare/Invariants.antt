use Rattle.std.proofs.Common.{◌≡◌, ◌-◌, ◌≤◌, ◌⊎◌, [], All, vec_len, vec_capacity}
use Rattle.cb_chain.proofs.index_list.reserve_spare.Given as goal

abbrev pub invariant-loop-alloc : goal.invariant-loop-alloc
invariant-loop-alloc l =
    All (λ block_indexes. (block_indexes.items ≡ []) × (256 ≤ vec_capacity block_indexes)) l.spare.items × ((vec_len l.spare ≤ l.count) ⊎ (vec_len l.spare ≡ vec_len l.fn.spare))

abbrev pub decreases-loop-alloc : goal.decreases-loop-alloc
decreases-loop-alloc l = l.count - vec_len l.spare
