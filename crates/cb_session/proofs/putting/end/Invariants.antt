use Rattle.std.proofs.Common.{◌≡◌, false}
use Rattle.cb_session.proofs.putting.end.Given as goal

-- the connection isn't ended yet
abbrev pub invariant-loop : goal.invariant-loop
invariant-loop g l = record {
  live : g.T.Seat.has_ended l.seat ≡ false;
  queued : g.T.Seat.queued l.seat ≡ g.T.Seat.queued l.fn.seat;
  seat : g.T.Seat.same_seat l.fn.seat l.seat;
}
