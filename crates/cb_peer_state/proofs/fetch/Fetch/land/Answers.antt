use Rattle.std.proofs.Common.{◌≡◌, ap, not, rules}
use Rattle.std.specs.Prelude.{filter}
use Rattle.std.proofs.lemmas.Fn.{filter_same}
use Rattle.cb_chain.specs.Entries.{same}
use Rattle.cb_peer_state.specs.Fetching.{landed}
use Rattle.cb_peer_state.proofs.Once.{lands}
use Rattle.cb_peer_state.proofs.fetch.Fetch.land.Goals as goal

pub invariant_of-self : goal.invariant_of-self
invariant_of-self c =
    let kept : c.retain.new.self.items ≡ filter (λ other. not (same c.args.hash.now other)) c.self.inside.flight.items =
    filter_same _ (λ other. not (same c.args.hash.now other)) _ (λ x b f' k. search rules) _ _ c.retain.ensures.filtered in
    rw kept (lands (record { flight = c.self.inside.flight.items; wanted = c.self.inside.wanted.keys }) c.args.hash.now c.self.invariant)

pub returns : goal.returns
returns c =
    let kept : c.retain.new.self.items ≡ filter (λ other. not (same c.args.hash.now other)) c.self.inside.flight.items =
    filter_same _ (λ other. not (same c.args.hash.now other)) _ (λ x b f' k. search rules) _ _ c.retain.ensures.filtered in
    rw kept (ap (landed c.args.hash.now) c.self.view_is)
