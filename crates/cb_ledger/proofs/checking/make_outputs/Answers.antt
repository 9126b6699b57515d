use Rattle.std.proofs.Common.{◌≡◌, ◌∙◌, sym, ap, inl, inr, arith, None, subst, is_some, true, ℕ, SFits, rules}
use Rattle.std.specs.Int.{w64}
use Rattle.std.proofs.lemmas.Int.{to_z-of_z}
use Rattle.std.specs.FinMap as map
use Rattle.cb_block.specs.declared.tx.OutPoint.{OutPoint}
use Rattle.cb_ledger.specs.Spend.{make_outputs}
use Rattle.cb_ledger.specs.Undo.{changed}
use Rattle.cb_ledger.proofs.FirstTouch.{output_touched}
use Rattle.cb_ledger.proofs.Spending.{outputs_more, outputs_refused, outputs_end, is_none}
use Rattle.cb_ledger.proofs.checking.make_outputs.Goals as goal

pub returns-then-is_some-clause-told : goal.returns-then-is_some-clause-told
returns-then-is_some-clause-told c =
    let u = c.args.base.now in
    let point : OutPoint = record { txid = c.args.txid; index = c.loop-output.index } in
    let there : is_some (map.get (changed u c.loop-output.draft) point) ≡ true = ap is_some (sym c.value.ensures) ∙ sym c.is_some.ensures ∙ c.if-is_some.true in
    let there_by_place : is_some (map.get (changed u c.loop-output.draft) (record { txid = c.args.txid; index = c.loop-output.output-index })) ≡ true =
    subst (λ (n : ℕ). is_some (map.get (changed u c.loop-output.draft) (record { txid = c.args.txid; index = n })) ≡ true) c.loop-output.invariant.place there in
    inr (outputs_refused (changed u c.loop-output.draft) c.args.txid c.args.outputs.now c.loop-output.output-index c.output-item.result (make_outputs (changed u c.args.draft.now) c.args.txid 0 c.args.outputs.now) c.loop-output-test.true c.output-item.is there_by_place c.loop-output.invariant.made)

pub loop-output-preserved : goal.loop-output-preserved
loop-output-preserved c =
    let u = c.args.base.now in
    let at : ℕ → OutPoint = λ n. record { txid = c.args.txid; index = n } in
    let absent : map.get (changed u c.loop-output.draft) (at c.loop-output.index) ≡ None = sym c.value.ensures ∙ is_none c.value.result (sym c.is_some.ensures ∙ c.if-is_some.false) in
    let fits : SFits w64 c.output-item.result.value = search rules in
    let next : changed u c.note.new.self ≡ map.insert (changed u c.loop-output.draft) (at c.loop-output.index) c.output-item.result.value =
    c.in_ok-note.ensures.ok u ∙ ap (map.insert (changed u c.loop-output.draft) (at c.loop-output.index)) (to_z-of_z w64 c.output-item.result.value fits) in
    record {
      place = omega arith;
      made = outputs_more (changed u c.loop-output.draft) (changed u c.note.new.self) c.args.txid c.args.outputs.now c.loop-output.output-index c.output-item.result (make_outputs (changed u c.args.draft.now) c.args.txid 0 c.args.outputs.now) c.loop-output-test.true c.output-item.is
          (subst (λ (n : ℕ). map.get (changed u c.loop-output.draft) (at n) ≡ None) c.loop-output.invariant.place absent)
          (subst (λ (n : ℕ). changed u c.note.new.self ≡ map.insert (changed u c.loop-output.draft) (at n) c.output-item.result.value) c.loop-output.invariant.place next)
          c.loop-output.invariant.made;
      quiet = inl (output_touched u c.args.draft.now c.loop-output.draft c.args.txid c.args.outputs.now c.loop-output.output-index c.loop-output.invariant.quiet c.loop-output-test.true
          (subst (λ (n : ℕ). map.get (changed u c.loop-output.draft) (at n) ≡ None) c.loop-output.invariant.place absent));
    }

pub returns-clause-told : goal.returns-clause-told
returns-clause-told c =
    let u = c.args.base.now in
    outputs_end (changed u c.loop-output.draft) c.args.txid c.args.outputs.now c.loop-output.output-index (make_outputs (changed u c.args.draft.now) c.args.txid 0 c.args.outputs.now) c.loop-output-test.false c.loop-output.invariant.made

pub returns-then-is_some-clause-unpaid : goal.returns-then-is_some-clause-unpaid
returns-then-is_some-clause-unpaid c = elim c.loop-output.invariant.quiet [ inl touched ↦ inl touched | inr first ↦ inr (first.0, λ e. absurd cc) ]

pub returns-in_err-note-clause-unpaid : goal.returns-in_err-note-clause-unpaid
returns-in_err-note-clause-unpaid c =
    let u = c.args.base.now in
    let at : ℕ → OutPoint = λ n. record { txid = c.args.txid; index = n } in
    let absent : map.get (changed u c.loop-output.draft) (at c.loop-output.index) ≡ None = sym c.value.ensures ∙ is_none c.value.result (sym c.is_some.ensures ∙ c.if-is_some.false) in
    inl (output_touched u c.args.draft.now c.loop-output.draft c.args.txid c.args.outputs.now c.loop-output.output-index c.loop-output.invariant.quiet c.loop-output-test.true
    (subst (λ (n : ℕ). map.get (changed u c.loop-output.draft) (at n) ≡ None) c.loop-output.invariant.place absent))

pub returns-clause-unpaid : goal.returns-clause-unpaid
returns-clause-unpaid c = elim c.loop-output.invariant.quiet [ inl touched ↦ inl touched | inr first ↦ inr (first.0, λ e. absurd cc) ]
