use Rattle.std.proofs.Common.{◌≡◌, ◌∙◌, ap, arith, inl, inr, length, true, false, subst, sym, Err}
use Rattle.std.proofs.lemmas.Result.{err_from_is_err_and}
use Rattle.cb_base.specs.declared.fault.Fault.TheVariants.{Memory}
use Rattle.cb_block.specs.declared.tx.Tx.{Tx}
use Rattle.cb_block.specs.TxRules.{IsCoinbase, IsLeastBroken, MeetsRules}
use Rattle.cb_block.specs.TxText.{tx_text}
use Rattle.cb_pool.specs.Rules.{IsUntold, RefusesAlone}
use Rattle.cb_pool.proofs.Named.{untold}
use Rattle.cb_pool.proofs.candidate.Candidate.new.Goals as goal

pub returns-in_err-check_tx-clause-unpaid : goal.returns-in_err-check_tx-clause-unpaid
returns-in_err-check_tx-clause-unpaid c = λ memory.
    let p = err_from_is_err_and c.from_residual.result c.from_residual.ensures.1 in
    let both : Err p.0 ≡ Err Memory = sym p.1 ∙ memory in
    let same : p.0 ≡ Memory = cc in
    let fault : c.in_err-check_tx.field-0.0 ≡ Memory = sym p.2 ∙ same in
    let paid = c.in_err-check_tx.ensures.paid (ap Err fault) in
    subst IsUntold c.deref.ensures (untold c.deref.result.now paid.0 paid.1)

pub returns-in_err-check_tx-clause-exact : goal.returns-in_err-check_tx-clause-exact
returns-in_err-check_tx-clause-exact c =
    let p = err_from_is_err_and c.from_residual.result c.from_residual.ensures.1 in
    rw (p.1, p.2)
    (elim c.in_err-check_tx.ensures.exact [
      | inl memory ↦ inl memory
      | inr told ↦ inr (subst (RefusesAlone c.args.tx) (sym told.1) (subst (λ (t : Tx). IsLeastBroken t told.0) c.deref.ensures told.2))
    ])

pub returns-in_err-txid-clause-unpaid : goal.returns-in_err-txid-clause-unpaid
returns-in_err-txid-clause-unpaid c = λ _.
    let rules = subst MeetsRules c.deref.ensures c.in_ok-check_tx.ensures.exact in (
      λ rule first. rules rule,
      λ coinbase. let clash : false ≡ true = c.if-is_coinbase.ensures.1 (subst IsCoinbase (sym c.deref-2.ensures) coinbase) in cc,
      λ few same. c.if-size-eq64.false (omega (arith, same, c.size.ensures, ap (λ (t : Tx). length (tx_text t)) c.deref-3.ensures)),
    )

pub returns-clause-exact : goal.returns-clause-exact
returns-clause-exact c = record {
  rules = subst MeetsRules c.deref.ensures c.in_ok-check_tx.ensures.exact;
  ordinary = λ coinbase. let clash : false ≡ true = c.if-is_coinbase.ensures.1 (subst IsCoinbase (sym c.deref-2.ensures) coinbase) in cc;
  size = λ same. c.if-size-eq64.false (omega (arith, same, c.size.ensures, ap (λ (t : Tx). length (tx_text t)) c.deref-3.ensures));
}
