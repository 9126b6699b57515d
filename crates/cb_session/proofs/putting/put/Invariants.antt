use Rattle.std.proofs.Common.{◌≡◌, false}
use Rattle.cb_session.proofs.putting.put.Given as goal

-- nothing was put yet
abbrev pub invariant-loop : goal.invariant-loop
invariant-loop g l = record {
  live : g.T.Seat.has_ended l.seat ≡ false;
  queued : g.T.Seat.queued l.seat ≡ g.T.Seat.queued l.fn.seat;
  input : l.input ≡ l.fn.input;
  seat : g.T.Seat.same_seat l.fn.seat l.seat;
}
