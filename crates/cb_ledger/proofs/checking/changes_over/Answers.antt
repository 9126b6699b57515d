use Rattle.std.proofs.Common.{◌≡◌, ◌∙◌, ap, Err, inl, inr}
use Rattle.std.proofs.lemmas.Result.{err_from_is_err_and}
use Rattle.cb_base.specs.declared.fault.Fault.TheVariants.{Memory}
use Rattle.cb_ledger.specs.Spend.{spend}
use Rattle.cb_ledger.proofs.FirstTouch.{touches_from}
use Rattle.cb_ledger.proofs.Txs.{spend_from, fault_from, told_out, none_out}
use Rattle.cb_ledger.proofs.checking.changes_over.Goals as goal

pub returns-in_err-spend_txs-clause-told : goal.returns-in_err-spend_txs-clause-told
returns-in_err-spend_txs-clause-told c =
    let p = err_from_is_err_and c.from_residual.result c.from_residual.ensures.1 in
    rw (p.1, p.2) (fault_from c.args.base.now c.with_seed-draft.result c.as_slice-txs.result.now c.args.block.now.txs c.in_err-spend_txs.field-0.0 c.with_seed-draft.ensures (c.as_slice-txs.ensures ∙ ap (λ b. b.txs) c.block.ensures.same) c.in_err-spend_txs.ensures.told)

pub returns-clause-told : goal.returns-clause-told
returns-clause-told c =
    let u = c.args.base.now in
    told_out u c.spend_txs.new.draft (spend u c.args.block.now.txs) c.into_undo.result
    (spend_from u c.with_seed-draft.result c.as_slice-txs.result.now c.args.block.now.txs c.with_seed-draft.ensures (c.as_slice-txs.ensures ∙ ap (λ b. b.txs) c.block.ensures.same) ∙ c.in_ok-spend_txs.ensures.told)
    c.into_undo.ensures.same c.into_undo.ensures.memory

pub returns-in_err-spend_txs-clause-unpaid : goal.returns-in_err-spend_txs-clause-unpaid
returns-in_err-spend_txs-clause-unpaid c =
    let p = err_from_is_err_and c.from_residual.result c.from_residual.ensures.1 in
    rw (p.1, p.2) (elim c.in_err-spend_txs.ensures.unpaid [
      | inl touched ↦ inl (touches_from c.args.base.now c.with_seed-draft.result c.as_slice-txs.result.now c.args.block.now.txs c.with_seed-draft.ensures (c.as_slice-txs.ensures ∙ ap (λ b. b.txs) c.block.ensures.same) touched)
      | inr still ↦ inr (tt, λ e. still.1 (let z : c.in_err-spend_txs.field-0.0 ≡ Memory = cc in ap Err z))
    ])

pub returns-clause-unpaid : goal.returns-clause-unpaid
returns-clause-unpaid c =
    elim c.in_ok-spend_txs.ensures.unpaid [
      | inl touched ↦ inl (touches_from c.args.base.now c.with_seed-draft.result c.as_slice-txs.result.now c.args.block.now.txs c.with_seed-draft.ensures (c.as_slice-txs.ensures ∙ ap (λ b. b.txs) c.block.ensures.same) touched)
      | inr still ↦ inr (none_out c.spend_txs.new.draft c.into_undo.result (still.0 ∙ c.with_seed-draft.ensures) c.into_undo.ensures.same c.into_undo.ensures.none)
    ]
