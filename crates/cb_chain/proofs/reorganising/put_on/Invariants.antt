use Rattle.std.proofs.Common.{◌≡◌, ◌+◌, ◌≤◌, ◌++◌, take, vec_capacity, vec_len}
use Rattle.cb_chain.proofs.reorganising.put_on.Given as goal

abbrev pub invariant-loop-place : goal.invariant-loop-place
invariant-loop-place l = record {
  can : (goal.iterator-loop-place).can_next l.place-iterator;
  finite : (goal.iterator-loop-place).is_finite l.place-iterator;
  so_far : l.active.items ++ l.place-iterator.rest.items ≡ take (l.fork + 1) l.fn.active.items ++ l.fn.branch.items;
  room : vec_len l.active + (l.place-iterator.rest.len + 1) ≤ vec_capacity l.active;
}
