use Rattle.std.proofs.Common.{◌≡◌, List, ◌++◌}
use Rattle.std.specs.Vec.Iter.{into_iter_items}
use Rattle.cb_wire.specs.declared.item.Item.{Item}
use Rattle.cb_session.specs.Input.{said}
use Rattle.cb_session.specs.Putting.{PutAll, seat_now}
use Rattle.cb_session.proofs.putting.put_items.Given as goal

-- what isn't waiting was put
abbrev pub invariant-loop-item : goal.invariant-loop-item
invariant-loop-item g l = record {
  taken : List Item;
  parts : l.fn.items.items ≡ taken ++ into_iter_items l.item-iterator;
  put : PutAll (seat_now g.T.Seat.queued g.T.Seat.has_ended g.T.Seat.counted g.P.Stop.has_stopped l.fn.seat l.fn.stop) (seat_now g.T.Seat.queued g.T.Seat.has_ended g.T.Seat.counted g.P.Stop.has_stopped l.seat l.stop) (said taken);
  seat : g.T.Seat.same_seat l.fn.seat l.seat;
}
