use Rattle.std.proofs.Common.{◌≡◌, ◌∙◌, List, inl, inr, subst, sym}
use Rattle.std.specs.FinMap as finite
use Rattle.std.proofs.lemmas.List.{take_all}
use Rattle.cb_block.specs.declared.tx.OutPoint.{OutPoint}
use Rattle.cb_block.specs.declared.tx.TxIn.{TxIn}
use Rattle.cb_ledger.specs.Touched.{IsNamed}
use Rattle.cb_ledger.specs.Undo.{changed, changes_of}
use Rattle.cb_pool.proofs.Untouched.{changed_at, kept_at, named_at, named_more}
use Rattle.cb_pool.proofs.apart.keep_inputs.Goals as goal

pub loop-input-init : goal.loop-input-init
loop-input-init c = λ u point named. absurd named

pub returns-then-contains_key-clause-seen : goal.returns-then-contains_key-clause-seen
returns-then-contains_key-clause-seen c = λ no.
    let input = c.input-item.result in (
      input.prev,
      named_at c.args.inputs.now c.loop-input.input-index input c.loop-input-test.true c.input-item.is,
      changed_at c.args.coins.now.entries input.prev (sym c.contains_key.ensures ∙ c.if-contains_key.true),
    )

pub loop-input-preserved : goal.loop-input-preserved
loop-input-preserved c = λ u point named.
    let coins = c.args.coins.now.entries in
    let input = c.input-item.result in
    elim (named_more c.args.inputs.now c.loop-input.input-index input point c.loop-input-test.true c.input-item.is named) [
      | inl before ↦ c.loop-input.invariant u point before
      | inr here ↦ subst (λ (p : OutPoint). finite.get (changed u (changes_of coins)) p ≡ finite.get u p) here (kept_at coins input.prev (sym c.contains_key.ensures ∙ c.if-contains_key.false) u)
    ]

pub returns-clause-kept : goal.returns-clause-kept
returns-clause-kept c = λ true u point named.
    c.loop-input.invariant u point (subst (λ (l : List TxIn). IsNamed l point) (sym (take_all c.loop-input.input-index c.args.inputs.now c.loop-input-test.false)) named)
