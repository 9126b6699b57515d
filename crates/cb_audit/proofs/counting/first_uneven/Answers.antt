use Rattle.std.proofs.Common.{◌≡◌, ◌∙◌, ap, subst}
use Rattle.cb_hall.specs.Connections.{Slots, most_peers}
use Rattle.cb_hall.specs.Replica.{ReplicaState}
use Rattle.cb_audit.specs.Counting.{HasTrace, IsFoundAmong, IsOfPeers}
use Rattle.cb_audit.proofs.Numbers.{as_many, first_of_all, of_all}
use Rattle.cb_audit.proofs.counting.first_uneven.Goals as goal

pub returns-clause-exact : goal.returns-clause-exact
returns-clause-exact c =
    let journal = c.args.journal.now in
    let same : c.connections-connections.result.now ≡ journal.latest.connections =
    c.connections-connections.ensures.connections ∙ ap (λ (replica : ReplicaState). replica.connections) c.latest-2.ensures in
    first_of_all journal.latest.connections c.args.audited.now c.first_with_trace.result c.first_known.result c.earlier.result
    (of_all journal.latest.connections (as_many journal.base journal.latest journal.entries c.entries.ensures.past))
    (subst (λ (slots : Slots). IsFoundAmong slots c.args.audited.now (HasTrace c.args.audited.now) c.first_with_trace.result) same c.first_with_trace.ensures)
    (subst (λ (slots : Slots). IsFoundAmong slots c.args.audited.now (IsOfPeers slots most_peers) c.first_known.result) same c.first_known.ensures) c.earlier.ensures.none c.earlier.ensures.found
