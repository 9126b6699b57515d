use Rattle.std.proofs.Common.{◌≡◌, ◌≤◌}
use Rattle.std.specs.List.{range_with_len}
use Rattle.std.specs.VecDeque.{deque_capacity}
use Rattle.cb_crew.proofs.system.full_ring.Given as goal

abbrev pub invariant-loop-peer : goal.invariant-loop-peer
invariant-loop-peer l = record {
  items : l.ring.items ≡ range_with_len 0 l.peer;
  room : l.fn.peers ≤ deque_capacity l.ring;
}
