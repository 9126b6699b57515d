use Rattle.std.proofs.Common.{◌≡◌, ◌∙◌, sym, inl, inr, arith, to_z, of_z, ◌+ℤ◌, SFits, rules}
use Rattle.std.specs.Int.{w64, w128}
use Rattle.std.proofs.lemmas.Int.{ints, to_z-of_z}
use Rattle.cb_ledger.specs.Spend.{spend_inputs}
use Rattle.cb_ledger.specs.Undo.{changed}
use Rattle.cb_ledger.proofs.FirstTouch.{input_touched}
use Rattle.cb_ledger.proofs.Spending.{inputs_more, inputs_refused, inputs_end}
use Rattle.cb_ledger.proofs.checking.spend_inputs.Goals as goal

pub returns-in-None-clause-told : goal.returns-in-None-clause-told
returns-in-None-clause-told c =
    let u = c.args.base.now in
    inr (inputs_refused (changed u c.loop-input.draft) c.args.inputs.now c.loop-input.input-index c.input-item.result (to_z w128 c.loop-input.sum-bits) (spend_inputs (changed u c.args.draft.now) c.args.inputs.now) c.loop-input-test.true c.input-item.is (sym c.in-None.ensures) c.loop-input.invariant.spent)

pub loop-input-preserved : goal.loop-input-preserved
loop-input-preserved c =
    let u = c.args.base.now in
    let sum = to_z w128 c.loop-input.sum-bits in
    let value = c.in-Some.value in
    let fits : SFits w64 value = search rules in
    let added : to_z w128 (of_z w128 (sum +ℤ to_z w128 (of_z w128 c.from-sum.result))) ≡ sum +ℤ value = grind (arith, ints, to_z-of_z, to_z-of_z w64 value fits) in
    rw added (record {
      spent = inputs_more (changed u c.loop-input.draft) (changed u c.note.new.self) c.args.inputs.now c.loop-input.input-index c.input-item.result sum value (spend_inputs (changed u c.args.draft.now) c.args.inputs.now) c.loop-input-test.true c.input-item.is (sym c.value.ensures ∙ c.in-Some.is) (c.in_ok-note-in-Some.ensures.ok u) c.loop-input.invariant.spent;
      least = omega (arith, ints);
      most = omega (arith, ints);
      quiet = inl (input_touched u c.args.draft.now c.loop-input.draft c.args.inputs.now c.loop-input.input-index c.input-item.result value c.loop-input.invariant.quiet c.loop-input-test.true c.input-item.is (sym c.value.ensures ∙ c.in-Some.is));
    })

pub returns-clause-told : goal.returns-clause-told
returns-clause-told c =
    let u = c.args.base.now in
    inputs_end (changed u c.loop-input.draft) c.args.inputs.now c.loop-input.input-index (to_z w128 c.loop-input.sum-bits) (spend_inputs (changed u c.args.draft.now) c.args.inputs.now) c.loop-input-test.false c.loop-input.invariant.spent

pub returns-in-None-clause-unpaid : goal.returns-in-None-clause-unpaid
returns-in-None-clause-unpaid c = elim c.loop-input.invariant.quiet [ inl touched ↦ inl touched | inr first ↦ inr (first.0, λ e. absurd cc) ]

pub returns-in_err-note-in-Some-clause-unpaid : goal.returns-in_err-note-in-Some-clause-unpaid
returns-in_err-note-in-Some-clause-unpaid c =
    inl (input_touched c.args.base.now c.args.draft.now c.loop-input.draft c.args.inputs.now c.loop-input.input-index c.input-item.result c.in-Some.value c.loop-input.invariant.quiet c.loop-input-test.true c.input-item.is (sym c.value.ensures ∙ c.in-Some.is))

pub returns-clause-unpaid : goal.returns-clause-unpaid
returns-clause-unpaid c = elim c.loop-input.invariant.quiet [ inl touched ↦ inl touched | inr first ↦ inr (first.0, λ e. absurd cc) ]
