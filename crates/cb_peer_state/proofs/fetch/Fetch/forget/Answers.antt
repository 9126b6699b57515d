use Rattle.std.proofs.Common.{◌≡◌, ◌∙◌, ◌||◌, List, ap, not, rules}
use Rattle.std.specs.Prelude.{filter}
use Rattle.std.proofs.lemmas.Fn.{filter_same}
use Rattle.cb_base.specs.declared.hash.Hash256.{Hash256}
use Rattle.cb_peer_state.specs.Fetching.{has, without}
use Rattle.cb_peer_state.proofs.Once.{leaves}
use Rattle.cb_peer_state.proofs.fetch.Fetch.forget.Goals as goal

pub invariant_of-self : goal.invariant_of-self
invariant_of-self c =
    let listed = c.args.listed.now.keys in
    let kept : c.retain.new.self.keys ≡ filter (λ hash. has c.as_slice-flight.result.now hash || not (has listed hash)) c.self.inside.wanted.keys =
    filter_same _ (λ hash. has c.as_slice-flight.result.now hash || not (has listed hash)) _ (λ x b f' k. search rules) _ _ c.retain.ensures.filtered in
    let left = kept ∙ ap (λ (flight : List Hash256). filter (λ hash. has flight hash || not (has listed hash)) c.self.inside.wanted.keys) c.as_slice-flight.ensures.value in
    rw left (leaves (record { flight = c.self.inside.flight.items; wanted = c.self.inside.wanted.keys }) listed c.self.invariant)

pub returns : goal.returns
returns c =
    let listed = c.args.listed.now.keys in
    let kept : c.retain.new.self.keys ≡ filter (λ hash. has c.as_slice-flight.result.now hash || not (has listed hash)) c.self.inside.wanted.keys =
    filter_same _ (λ hash. has c.as_slice-flight.result.now hash || not (has listed hash)) _ (λ x b f' k. search rules) _ _ c.retain.ensures.filtered in
    let left = kept ∙ ap (λ (flight : List Hash256). filter (λ hash. has flight hash || not (has listed hash)) c.self.inside.wanted.keys) c.as_slice-flight.ensures.value in
    rw left (ap (λ f. without f listed) c.self.view_is)
