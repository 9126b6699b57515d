use Rattle.std.proofs.Common.{◌<◌, length, sym, subst}
use Rattle.cb_peer_state.specs.Fetching.{FetchState}
use Rattle.cb_peer_state.proofs.Once.{flies, flight_lacks}
use Rattle.cb_peer_state.proofs.fetch.Fetch.put_flight.Goals as goal

pub invariant_of-self-2 : goal.invariant_of-self-2
invariant_of-self-2 c =
    rw c.in_ok-push.ensures.items (flies (record { flight = c.self.inside.flight.items; wanted = c.self.inside.wanted.keys }) c.args.hash c.self.invariant (flight_lacks c.args.self.now _ c.args.hash c.self.view_is c.requires.fresh)
    (subst (λ (f : FetchState). length f.flight < 16) (sym c.self.view_is) c.requires.room))
