use Rattle.std.proofs.Common.{◌≡◌, true, sym, subst, ◌∙◌}
use Rattle.std.specs.Prelude.{IfOk}
use Rattle.cb_peer_state.specs.Outcomes.{Makes, is_light_stage}
use Rattle.cb_base.specs.declared.fault.Fault.TheVariants.{WrongCount}
use Rattle.cb_peer_state.specs.Receiving.{Outcome}
use Rattle.cb_peer.proofs.Completing.{ignored, not_filled, not_memory, unfit}
use Rattle.cb_peer.proofs.compact_receiving.hear_txs.Goals as goal

pub returns-then-not-is_partial-clause-ok : goal.returns-then-not-is_partial-clause-ok
returns-then-not-is_partial-clause-ok c = λ item.
    let s = c.args.session.now in
    let outcome = ignored s c.args.given.now c.new.result.items (sym c.is_partial.ensures ∙ c.if-not-is_partial.true) c.new.ensures.items in
    subst (λ (o : Outcome). IfOk c.end.result (λ made. Makes o item s made.messages.items made.next)) outcome (c.end.ensures.ok item)

pub returns-then-not-is_partial-clause-silent : goal.returns-then-not-is_partial-clause-silent
returns-then-not-is_partial-clause-silent c = λ weighs light.
    let outcome = ignored c.args.session.now c.args.given.now c.new.result.items (sym c.is_partial.ensures ∙ c.if-not-is_partial.true) c.new.ensures.items in
    c.end.ensures.silent (subst (λ (o : Outcome). is_light_stage o.next ≡ true) (sym outcome) light.1)

pub returns-in-Ok-Wrong-clause-silent : goal.returns-in-Ok-Wrong-clause-silent
returns-in-Ok-Wrong-clause-silent c = λ weighs light.
    let wrong = unfit c.args.session.now c.args.given.now c.in-Some.partial (sym c.take.ensures.value ∙ c.in-Some.is) (sym c.is_partial.ensures ∙ c.if-not-is_partial.false) weighs in
    absurd (not_filled c.in-Ok-Wrong.field-0 (sym c.in-Ok-Wrong.is ∙ c.complete.ensures.unpaid WrongCount wrong))

pub returns-in-Err-Memory-clause-silent : goal.returns-in-Err-Memory-clause-silent
returns-in-Err-Memory-clause-silent c = λ weighs light.
    let wrong = unfit c.args.session.now c.args.given.now c.in-Some.partial (sym c.take.ensures.value ∙ c.in-Some.is) (sym c.is_partial.ensures ∙ c.if-not-is_partial.false) weighs in
    absurd (not_memory c.in-Err-Memory.field-0 c.in-Err-Memory.field-0-is c.complete.result c.in-Err-Memory.is (c.complete.ensures.unpaid WrongCount wrong))
