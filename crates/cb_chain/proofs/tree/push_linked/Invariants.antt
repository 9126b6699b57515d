use Rattle.std.proofs.Common.{◌≡◌, ℕ, ◌-◌, ◌^◌, ◌≤◌, ◌++◌, List, vec_capacity, vec_len}
use Rattle.cb_chain.specs.Keeping.{AreLinked}
use Rattle.cb_chain.proofs.tree.push_linked.Given as goal

abbrev pub invariant-loop-place : goal.invariant-loop-place
invariant-loop-place l = record {
  rest : (places : List ℕ) → AreLinked l.elder l.fn.newest places → (rest : List ℕ) × AreLinked l.elder l.place rest × (l.found.items ++ rest ≡ l.fn.found.items ++ places);
  room : vec_capacity l.fn.found ≤ vec_capacity l.found;
}

abbrev pub decreases-loop-place : goal.decreases-loop-place
decreases-loop-place l = 2 ^ 63 - vec_len l.found
