use Rattle.std.proofs.Common.{◌≡◌, ◌∙◌, ap, inl, inr, Err, SFits, rules, arith, ◌<ℤ◌, ◌≤ℤ◌}
use Rattle.std.specs.Int.{w128}
use Rattle.std.proofs.lemmas.Int.{ints, to_z-of_z}
use Rattle.std.proofs.lemmas.Result.{err_from_is_err_and}
use Rattle.cb_base.specs.declared.fault.Fault.TheVariants.{Memory}
use Rattle.cb_block.specs.TxRules.{value_sum}
use Rattle.cb_ledger.specs.Spend.{make_outputs, spend_tx}
use Rattle.cb_ledger.specs.Undo.{changed}
use Rattle.cb_ledger.proofs.FirstTouch.{touches_made, touches_minted, touches_spent}
use Rattle.cb_ledger.proofs.Txs.{Tells-same, is_coinbase_is, tx_coinbase, tx_unspent, tx_overspent, tx_other}
use Rattle.cb_ledger.proofs.checking.spend_tx.Goals as goal

pub returns-then-is_coinbase-clause-told : goal.returns-then-is_coinbase-clause-told
returns-then-is_coinbase-clause-told c =
    let u = changed c.args.base.now c.args.draft.now in
    let tx = c.args.tx.now in
    let outputs = c.as_slice-outputs.result.now in
    Tells-same (make_outputs u c.args.txid 0 outputs) (spend_tx u tx) (λ _. changed c.args.base.now c.make_outputs.new.draft) c.make_outputs.result
    (tx_coinbase u tx c.args.txid outputs (is_coinbase_is tx.inputs c.is_coinbase.result c.is_coinbase.ensures ∙ c.if-is_coinbase.true) c.requires.name c.as_slice-outputs.ensures) c.make_outputs.ensures.told

pub returns-in_err-spent-clause-told : goal.returns-in_err-spent-clause-told
returns-in_err-spent-clause-told c =
    let u = changed c.args.base.now c.args.draft.now in
    let tx = c.args.tx.now in
    let p = err_from_is_err_and c.from_residual.result c.from_residual.ensures.1 in
    rw (p.1, p.2) (tx_unspent u tx c.as_slice.result.now c.in_err-spent.field-0.0 (is_coinbase_is tx.inputs c.is_coinbase.result c.is_coinbase.ensures ∙ c.if-is_coinbase.false) c.as_slice.ensures c.in_err-spent.ensures.told)

pub returns-then-spent-sum_of-clause-told : goal.returns-then-spent-sum_of-clause-told
returns-then-spent-sum_of-clause-told c =
    let u = changed c.args.base.now c.args.draft.now in
    let tx = c.args.tx.now in
    let fits : SFits w128 c.in_ok-spent.spent = search rules in
    let fits_sum : SFits w128 c.sum_of.result = search rules in
    let less : c.in_ok-spent.spent <ℤ c.sum_of.result = grind (arith, ints, to_z-of_z w128 c.in_ok-spent.spent fits, to_z-of_z w128 c.sum_of.result fits_sum) in
    inr (tx_overspent u tx c.as_slice.result.now c.in_ok-spent.spent c.sum_of.result (changed c.args.base.now c.spend_inputs.new.draft) (is_coinbase_is tx.inputs c.is_coinbase.result c.is_coinbase.ensures ∙ c.if-is_coinbase.false) c.as_slice.ensures c.in_ok-spent.ensures.told (c.sum_of.ensures ∙ ap value_sum c.as_slice-outputs.ensures) less)

pub returns-clause-told : goal.returns-clause-told
returns-clause-told c =
    let u = changed c.args.base.now c.args.draft.now in
    let next = changed c.args.base.now c.spend_inputs.new.draft in
    let tx = c.args.tx.now in
    let outputs = c.as_slice-outputs.result.now in
    let fits : SFits w128 c.in_ok-spent.spent = search rules in
    let fits_sum : SFits w128 c.sum_of.result = search rules in
    let enough : c.sum_of.result ≤ℤ c.in_ok-spent.spent = grind (arith, ints, to_z-of_z w128 c.in_ok-spent.spent fits, to_z-of_z w128 c.sum_of.result fits_sum) in
    Tells-same (make_outputs next c.args.txid 0 outputs) (spend_tx u tx) (λ _. changed c.args.base.now c.make_outputs-2.new.draft) c.make_outputs-2.result
    (tx_other u tx c.args.txid c.as_slice.result.now outputs c.in_ok-spent.spent c.sum_of.result next (is_coinbase_is tx.inputs c.is_coinbase.result c.is_coinbase.ensures ∙ c.if-is_coinbase.false) c.requires.name c.as_slice.ensures c.as_slice-outputs.ensures c.in_ok-spent.ensures.told (c.sum_of.ensures ∙ ap value_sum c.as_slice-outputs.ensures) enough) c.make_outputs-2.ensures.told

pub returns-then-is_coinbase-clause-unpaid : goal.returns-then-is_coinbase-clause-unpaid
returns-then-is_coinbase-clause-unpaid c =
    let u = changed c.args.base.now c.args.draft.now in
    let tx = c.args.tx.now in
    elim c.make_outputs.ensures.unpaid [
      | inl first ↦ inl (touches_minted u tx c.args.txid c.as_slice-outputs.result.now (is_coinbase_is tx.inputs c.is_coinbase.result c.is_coinbase.ensures ∙ c.if-is_coinbase.true) c.requires.name c.as_slice-outputs.ensures first)
      | inr quiet ↦ inr quiet
    ]

pub returns-in_err-spent-clause-unpaid : goal.returns-in_err-spent-clause-unpaid
returns-in_err-spent-clause-unpaid c =
    let u = changed c.args.base.now c.args.draft.now in
    let tx = c.args.tx.now in
    let p = err_from_is_err_and c.from_residual.result c.from_residual.ensures.1 in
    rw (p.1, p.2) (elim c.in_err-spent.ensures.unpaid [
      | inl first ↦ inl (touches_spent u tx c.as_slice.result.now (is_coinbase_is tx.inputs c.is_coinbase.result c.is_coinbase.ensures ∙ c.if-is_coinbase.false) c.as_slice.ensures first)
      | inr quiet ↦ inr (quiet.0, λ e. quiet.1 (let z : c.in_err-spent.field-0.0 ≡ Memory = cc in ap Err z))
    ])

pub returns-then-spent-sum_of-clause-unpaid : goal.returns-then-spent-sum_of-clause-unpaid
returns-then-spent-sum_of-clause-unpaid c =
    let u = changed c.args.base.now c.args.draft.now in
    let tx = c.args.tx.now in
    elim c.in_ok-spent.ensures.unpaid [
      | inl first ↦ inl (touches_spent u tx c.as_slice.result.now (is_coinbase_is tx.inputs c.is_coinbase.result c.is_coinbase.ensures ∙ c.if-is_coinbase.false) c.as_slice.ensures first)
      | inr quiet ↦ inr (quiet.0, λ e. absurd cc)
    ]

pub returns-clause-unpaid : goal.returns-clause-unpaid
returns-clause-unpaid c =
    let u = changed c.args.base.now c.args.draft.now in
    let next = changed c.args.base.now c.spend_inputs.new.draft in
    let tx = c.args.tx.now in
    let other = is_coinbase_is tx.inputs c.is_coinbase.result c.is_coinbase.ensures ∙ c.if-is_coinbase.false in
    let fits : SFits w128 c.in_ok-spent.spent = search rules in
    let fits_sum : SFits w128 c.sum_of.result = search rules in
    let enough : c.sum_of.result ≤ℤ c.in_ok-spent.spent = grind (arith, ints, to_z-of_z w128 c.in_ok-spent.spent fits, to_z-of_z w128 c.sum_of.result fits_sum) in
    elim c.in_ok-spent.ensures.unpaid [
      | inl first ↦ inl (touches_spent u tx c.as_slice.result.now other c.as_slice.ensures first)
      | inr quiet ↦ elim c.make_outputs-2.ensures.unpaid [
        | inl first ↦ inl (touches_made u tx c.args.txid c.as_slice.result.now c.as_slice-outputs.result.now c.in_ok-spent.spent c.sum_of.result next other c.requires.name c.as_slice.ensures c.as_slice-outputs.ensures c.in_ok-spent.ensures.told (c.sum_of.ensures ∙ ap value_sum c.as_slice-outputs.ensures) enough first)
        | inr still ↦ inr (still.0 ∙ quiet.0, still.1)
      ]
    ]
