use Rattle.std.proofs.Common.{[], ◌∙◌, inl, inr}
use Rattle.std.proofs.lemmas.Result.{err_from_is_err_and}
use Rattle.cb_base.specs.declared.hash.Hash256.{Hash256}
use Rattle.cb_ledger.specs.Spend.{spend}
use Rattle.cb_ledger.specs.Undo.{changed}
use Rattle.cb_ledger.proofs.FirstTouch.{touches_here, touches_later}
use Rattle.cb_ledger.proofs.Txs.{txs_more, txs_refused, txs_end, name_at}
use Rattle.cb_ledger.proofs.checking.spend_txs.Goals as goal

pub spend_tx-requires-clause-name : goal.spend_tx-requires-clause-name
spend_tx-requires-clause-name c =
    let none : Hash256 = record { 0 = [] } in
    name_at c.args.txs.now c.args.txids.now c.loop-place.place c.deref.result.now none c.requires.named c.loop-place-test.true (rw c.deref.ensures c.index-txs-place.is)

pub returns-in_err-spend_tx-clause-told : goal.returns-in_err-spend_tx-clause-told
returns-in_err-spend_tx-clause-told c =
    let u = c.args.base.now in
    let p = err_from_is_err_and c.from_residual.result c.from_residual.ensures.1 in
    rw (p.1, p.2) (txs_refused (changed u c.loop-place.draft) c.args.txs.now c.loop-place.place c.deref.result.now c.in_err-spend_tx.field-0.0 (spend (changed u c.args.draft.now) c.args.txs.now) c.loop-place-test.true (rw c.deref.ensures c.index-txs-place.is) c.in_err-spend_tx.ensures.told c.loop-place.invariant.spent)

pub loop-place-preserved : goal.loop-place-preserved
loop-place-preserved c =
    let u = c.args.base.now in
    let here = changed u c.loop-place.draft in
    let next = changed u c.spend_tx.new.draft in
    let txs = c.args.txs.now in
    let tx = c.deref.result.now in
    record {
      spent = txs_more here next txs c.loop-place.place tx (spend (changed u c.args.draft.now) txs) c.loop-place-test.true (rw c.deref.ensures c.index-txs-place.is) c.in_ok-spend_tx.ensures.told c.loop-place.invariant.spent;
      behind = λ later. c.loop-place.invariant.behind (touches_later here next txs c.loop-place.place tx c.loop-place-test.true (rw c.deref.ensures c.index-txs-place.is) c.in_ok-spend_tx.ensures.told later);
      quiet = elim c.in_ok-spend_tx.ensures.unpaid [
        | inl one ↦ inl (c.loop-place.invariant.behind (touches_here here txs c.loop-place.place tx c.loop-place-test.true (rw c.deref.ensures c.index-txs-place.is) one))
        | inr still ↦ elim c.loop-place.invariant.quiet [ inl touched ↦ inl touched | inr same ↦ inr (still.0 ∙ same) ]
      ];
    }

pub returns-clause-told : goal.returns-clause-told
returns-clause-told c =
    let u = c.args.base.now in
    txs_end (changed u c.loop-place.draft) c.args.txs.now c.loop-place.place (spend (changed u c.args.draft.now) c.args.txs.now) c.loop-place-test.false c.loop-place.invariant.spent

pub returns-in_err-spend_tx-clause-unpaid : goal.returns-in_err-spend_tx-clause-unpaid
returns-in_err-spend_tx-clause-unpaid c =
    let p = err_from_is_err_and c.from_residual.result c.from_residual.ensures.1 in
    rw (p.1, p.2) (elim c.in_err-spend_tx.ensures.unpaid [
      | inl one ↦ inl (c.loop-place.invariant.behind (touches_here (changed c.args.base.now c.loop-place.draft) c.args.txs.now c.loop-place.place c.deref.result.now c.loop-place-test.true (rw c.deref.ensures c.index-txs-place.is) one))
      | inr still ↦ elim c.loop-place.invariant.quiet [ inl touched ↦ inl touched | inr same ↦ inr (still.0 ∙ same, still.1) ]
    ])

pub returns-clause-unpaid : goal.returns-clause-unpaid
returns-clause-unpaid c = elim c.loop-place.invariant.quiet [ inl touched ↦ inl touched | inr same ↦ inr (same, λ e. absurd cc) ]
