use Rattle.std.proofs.Common.{◌∙◌, ◌≤◌, ap, subst}
use Rattle.std.proofs.lemmas.Result.{err_from_is_err_and}
use Rattle.cb_hall.specs.Journal.{IsPast, JournalState}
use Rattle.cb_hall.proofs.Leading.{at_begin, at_few, at_fit, at_more}
use Rattle.cb_hall.proofs.journal.Journal.replayed.Goals as goal

pub loop-entry-init : goal.loop-entry-init
loop-entry-init c =
    at_begin c.args.self.now.base c.in_ok-replica.replica c.args.self.now.latest c.args.self.now.entries c.deref-entry-items.result.now c.new-answers.result.items
    (subst (λ (s : JournalState). IsPast s.base s.entries s.latest) c.self.view_is c.self.invariant.past)
    (c.deref-entry-items.ensures.value ∙ ap (λ (s : JournalState). s.entries) c.self.view_is) c.new-answers.ensures.items
    (c.in_ok-replica.ensures.same ∙ ap (λ (s : JournalState). s.base) c.self.view_is)

pub apply_again-requires-clause-fit : goal.apply_again-requires-clause-fit
apply_again-requires-clause-fit c =
    at_fit c.args.self.now.base c.loop-entry.replica c.args.self.now.latest c.args.self.now.entries c.deref-entry-items.result.now c.loop-entry.entry-index _ c.entry-item.result c.loop-entry.answers.items
    c.loop-entry.invariant c.loop-entry-test.true c.entry-item.is

pub apply_again-requires-clause-few : goal.apply_again-requires-clause-few
apply_again-requires-clause-few c =
    at_few c.args.self.now.base c.loop-entry.replica c.args.self.now.latest c.args.self.now.entries c.deref-entry-items.result.now c.loop-entry.entry-index c.entry-item.result
    c.loop-entry.answers.items c.loop-entry.invariant c.loop-entry-test.true (subst (λ (s : JournalState). s.latest.entries ≤ 4611686018427387904) c.self.view_is c.self.invariant.few)

pub loop-entry-preserved : goal.loop-entry-preserved
loop-entry-preserved c =
    at_more c.args.self.now.base c.loop-entry.replica c.apply_again.new.replica c.args.self.now.latest c.args.self.now.entries c.deref-entry-items.result.now c.loop-entry.entry-index _
    c.entry-item.result c.loop-entry.answers.items c.apply_again.new.answers.items c.loop-entry.invariant c.loop-entry-test.true c.entry-item.is c.in_ok-apply_again.ensures.ok

pub returns-in_err-apply_again-clause-memory : goal.returns-in_err-apply_again-clause-memory
returns-in_err-apply_again-clause-memory c =
    let p = err_from_is_err_and c.from_residual-in_err-apply_again.result c.from_residual-in_err-apply_again.ensures.1 in rw p.1 (p.2 ∙ c.in_err-apply_again.ensures.memory)
