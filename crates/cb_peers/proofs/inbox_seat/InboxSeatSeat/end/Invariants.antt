use Rattle.std.proofs.Common.{◌≡◌}
use Rattle.cb_peers.proofs.inbox_seat.InboxSeatSeat.end.Given as goal

abbrev pub invariant-loop : goal.invariant-loop
invariant-loop g l = l.self ≡ l.fn.self
