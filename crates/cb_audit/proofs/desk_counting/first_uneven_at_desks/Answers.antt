use Rattle.std.proofs.Common.{◌≡◌, ◌∙◌, ap, subst}
use Rattle.cb_hall.specs.Connections.{Slots, most_peers}
use Rattle.cb_hall.specs.Replica.{ReplicaState}
use Rattle.cb_audit.specs.Counting.{HasTrace, IsFoundAmong, IsOfPeers}
use Rattle.cb_audit.proofs.Numbers.{as_many, first_of_all, of_all}
use Rattle.cb_audit.specs.Desks.{traces_of}
use Rattle.cb_audit.proofs.Uneven.{found_is}
use Rattle.cb_audit.proofs.desk_counting.first_uneven_at_desks.Goals as goal

pub returns : goal.returns
returns g c =
    let journal = c.args.journal.now in
    let traces = traces_of c.args.desks.now in
    let same : c.connections-connections.result.now ≡ journal.latest.connections =
    c.connections-connections.ensures.connections ∙ ap (λ (replica : ReplicaState). replica.connections) c.latest.ensures in
    first_of_all journal.latest.connections traces c.uneven_at.result c.first_known_at_desks.result c.earlier.result
    (of_all journal.latest.connections (as_many journal.base journal.latest journal.entries c.entries.ensures.past))
    (subst (λ (slots : Slots). IsFoundAmong slots traces (HasTrace traces) c.uneven_at.result) same (found_is c.connections-connections.result.now traces c.uneven_at.result c.requires.order c.uneven_at.ensures))
    (subst (λ (slots : Slots). IsFoundAmong slots traces (IsOfPeers slots most_peers) c.first_known_at_desks.result) same c.first_known_at_desks.ensures) c.earlier.ensures.none c.earlier.ensures.found
