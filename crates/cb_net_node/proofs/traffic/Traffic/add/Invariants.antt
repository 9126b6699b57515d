use Rattle.std.proofs.Common.{◌≡◌, ◌<◌, ◌≤◌, ℕ}
use Rattle.cb_net_node.specs.Traffics.{row_at, with_more}
use Rattle.cb_net_node.proofs.traffic.Traffic.add.Given as goal

-- the rows below have theirs, and the others are as they were
abbrev pub invariant-loop-place : goal.invariant-loop-place
invariant-loop-place l = record {
  added : (place : ℕ) → place < l.place → row_at l.self place ≡ with_more (row_at l.fn.self place) (row_at l.other place);
  left : (place : ℕ) → l.place ≤ place → row_at l.self place ≡ row_at l.fn.self place;
}
