use Rattle.std.proofs.Common.{◌≡◌, ◌∙◌, ◌≤◌, ℕ, [], ap, subst}
use Rattle.std.proofs.lemmas.Result.{err_from_is_err_and}
use Rattle.cb_hall.specs.Connections.{AreCounted, Slots}
use Rattle.cb_hall.specs.Replica.{ReplicaState}
use Rattle.cb_audit.specs.Comparing.{AreFew, Seen}
use Rattle.cb_audit.specs.Heard.{IsHeard, IsSplit}
use Rattle.cb_audit.proofs.Journals.{answered, so_far_end, so_far_few, so_far_first, so_far_fit, so_far_next}
use Rattle.cb_audit.proofs.comparing.compare.Goals as goal

pub loop-entry-init : goal.loop-entry-init
loop-entry-init c =
    let journal = c.args.journal.now in
    let kept_is : c.connections-kept.result.now ≡ journal.base.connections =
    c.connections-kept.ensures.connections ∙ ap (λ (replica : ReplicaState). replica.connections) c.base-base.ensures in
    so_far_first journal.base.connections c.args.audited.now journal.base c.in_ok-replica.replica journal.latest journal.entries c.entries-entry-items.result.now c.in_ok-heard.heard.places.items c.in_ok-heard.heard.stranger
    c.entries-entry-items.ensures.past c.entries-entry-items.ensures.entries (c.in_ok-replica.ensures.same ∙ c.base-base.ensures)
    (subst (λ (slots : Slots). IsHeard slots c.args.audited.now (λ _. []) c.in_ok-heard.heard.places.items c.in_ok-heard.heard.stranger) kept_is c.in_ok-heard.ensures.first)

pub compare_one-requires-clause-fit : goal.compare_one-requires-clause-fit
compare_one-requires-clause-fit c =
    let journal = c.args.journal.now in
    so_far_fit journal.base.connections c.args.audited.now journal.base c.loop-entry.replica journal.latest journal.entries c.entries-entry-items.result.now c.loop-entry.entry-index c.entry-item.result
    c.loop-entry.heard.places.items c.loop-entry.heard.stranger c.loop-entry.invariant c.loop-entry-test.true c.entry-item.is

pub compare_one-requires-clause-few : goal.compare_one-requires-clause-few
compare_one-requires-clause-few c =
    let journal = c.args.journal.now in
    so_far_few journal.base.connections c.args.audited.now journal.base c.loop-entry.replica journal.latest journal.entries c.entries-entry-items.result.now c.loop-entry.entry-index c.entry-item.result
    c.loop-entry.heard.places.items c.loop-entry.heard.stranger c.loop-entry.invariant c.loop-entry-test.true c.entry-item.is
    (subst (λ (n : ℕ). n ≤ 4611686018427387904) (c.entries-2.ensures.same ∙ ap (λ (replica : ReplicaState). replica.entries) c.latest.ensures) c.entries-2.ensures.few)

pub returns-in_err-compare_one-clause-memory : goal.returns-in_err-compare_one-clause-memory
returns-in_err-compare_one-clause-memory c =
    let p = err_from_is_err_and c.from_residual-in_err-compare_one.result c.from_residual-in_err-compare_one.ensures.1 in rw p.1 (p.2 ∙ c.in_err-compare_one.ensures.memory)

pub loop-entry-preserved : goal.loop-entry-preserved
loop-entry-preserved c =
    let journal = c.args.journal.now in
    so_far_next journal.base.connections c.args.audited.now journal.base c.loop-entry.replica c.compare_one.new.replica journal.latest journal.entries c.entries-entry-items.result.now c.loop-entry.entry-index c.entry-item.result
    c.loop-entry.heard c.compare_one.new.heard c.loop-entry.invariant c.loop-entry-test.true c.entry-item.is (c.in_ok-compare_one.ensures.ok journal.base.connections)

pub returns-clause-exact : goal.returns-clause-exact
returns-clause-exact c =
    let journal = c.args.journal.now in
    let places = c.loop-entry.heard.places.items in
    let stranger = c.loop-entry.heard.stranger in
    let kept_is : c.connections-kept.result.now ≡ journal.base.connections =
    c.connections-kept.ensures.connections ∙ ap (λ (replica : ReplicaState). replica.connections) c.base-base.ensures in
    answered journal c.args.audited.now places stranger journal.base.entries c.first_difference.result
    (so_far_end journal.base.connections c.args.audited.now journal.base c.loop-entry.replica journal.latest journal.entries c.entries-entry-items.result.now c.loop-entry.entry-index places stranger c.loop-entry.invariant
    c.loop-entry-test.false)
    (subst (λ (replica : ReplicaState). AreCounted replica.entries replica.connections) c.base-base.ensures c.connections-kept.ensures.counted)
    (subst (λ (n : ℕ). n ≤ 4611686018427387904) (c.entries.ensures.same ∙ ap (λ (replica : ReplicaState). replica.entries) c.base-base.ensures) c.entries.ensures.few)
    c.requires.few c.entries-entry-items.ensures.bounded.0
    (subst
    (λ (slots : Slots).
    (seen : Seen) → AreFew slots c.args.audited.now seen → IsHeard slots c.args.audited.now seen places stranger → IsSplit slots c.args.audited.now seen c.first_difference.result)
    kept_is c.first_difference.ensures)
