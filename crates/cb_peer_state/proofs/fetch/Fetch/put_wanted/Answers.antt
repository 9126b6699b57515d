use Rattle.std.proofs.Common.{◌∙◌, ap, arith}
use Rattle.cb_peer_state.specs.Fetching.{FetchState, with_wanted}
use Rattle.cb_peer_state.proofs.Once.{inserted, is_wanted, wanted_lacks, wanted_last}
use Rattle.cb_peer_state.proofs.fetch.Fetch.put_wanted.Goals as goal

pub invariant_of-self : goal.invariant_of-self
invariant_of-self c =
    let lacks = wanted_lacks c.args.self.now (record { flight = c.self.inside.flight.items; wanted = c.self.inside.wanted.keys }) c.args.hash c.self.view_is c.requires in
    let last = inserted c.self.inside.wanted.keys c.insert.new.self.keys c.args.hash c.in_ok-insert.ensures.keys lacks in
    rw last (is_wanted (record { flight = c.self.inside.flight.items; wanted = c.self.inside.wanted.keys }) c.args.hash c.self.invariant lacks (omega (arith, c.len.ensures.len, c.if-len-lt-MOST_WANTED.true)))

pub returns-in_ok-insert-clause-wanted : goal.returns-in_ok-insert-clause-wanted
returns-in_ok-insert-clause-wanted c =
    let lacks = wanted_lacks c.args.self.now (record { flight = c.self.inside.flight.items; wanted = c.self.inside.wanted.keys }) c.args.hash c.self.view_is c.requires in
    let last = inserted c.self.inside.wanted.keys c.insert.new.self.keys c.args.hash c.in_ok-insert.ensures.keys lacks in
    wanted_last (record { flight = c.self.inside.flight.items; wanted = c.self.inside.wanted.keys }) c.insert.new.self.keys c.args.hash last (omega (arith, c.len.ensures.len, c.if-len-lt-MOST_WANTED.true))
    ∙ ap (λ (f : FetchState). with_wanted f c.args.hash) c.self.view_is
