use Rattle.std.proofs.Common.{◌≡◌, ◌≤◌, length, map, vec_capacity}
use Rattle.std.specs.List.{range_with_len}
use Rattle.std.specs.Iterator.Adapters.{zip_first, zip_second}
use Rattle.std.specs.Vec.Iter.{into_iter_items}
use Rattle.cb_node.proofs.Linking.{peer_of}
use Rattle.cb_node.proofs.Placing.{IsPlacing}
use Rattle.cb_node.proofs.crewing.slots_of.Given as goal

abbrev pub invariant-loop-seat : goal.invariant-loop-seat
invariant-loop-seat g l = record {
  can : (goal.iterator-loop-seat g).can_next l.seat-iterator;
  finite : (goal.iterator-loop-seat g).is_finite l.seat-iterator;
  room : length l.crew.inboxes ≤ vec_capacity l.slots;
  count : length l.slots.items ≡ l.number;
  numbered : map peer_of (into_iter_items (zip_second l.seat-iterator)) ≡ range_with_len l.number (length (into_iter_items (zip_second l.seat-iterator)));
  placing : IsPlacing l.crew l.number l.slots.items (into_iter_items (zip_first l.seat-iterator)) (into_iter_items (zip_second l.seat-iterator));
}
