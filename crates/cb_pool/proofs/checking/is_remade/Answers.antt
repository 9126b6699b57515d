use Rattle.std.proofs.Common.{◌≡◌, ◌∙◌, ap, sym, subst, refl, ℕ, None, is_some, true, arith}
use Rattle.std.specs.FinMap as finite
use Rattle.cb_block.specs.declared.tx.OutPoint.{OutPoint}
use Rattle.cb_ledger.specs.Spend.{make_outputs}
use Rattle.cb_ledger.specs.Undo.{changed, changes_of}
use Rattle.std.proofs.lemmas.Bool.{false≢true}
use Rattle.cb_ledger.proofs.Spending.{is_none}
use Rattle.cb_pool.specs.Leaving.{with_outputs, without_inputs}
use Rattle.cb_pool.proofs.Left.{gone_named, remade_end, remade_here, remade_more, still_there, without_none}
use Rattle.cb_pool.proofs.checking.is_remade.Goals as goal
use Rattle.cb_pool.proofs.checking.is_remade.Goals.{else-is_some-via-then-is_some+else-not-is_spent_by, else-is_some-via-else-is_some}

pub loop-output-init : goal.loop-output-init
unfolding with_outputs
loop-output-init c = record { place = refl; made = refl }

pub returns : goal.returns
returns c =
    let left = without_inputs (changed c.args.ledger.now.unspent (changes_of c.args.coins.now.entries)) c.args.inputs.now in
    remade_end left c.args.txid c.args.outputs.now c.loop-output.output-index (make_outputs left c.args.txid 0 c.args.outputs.now) c.loop-output-test.false c.loop-output.invariant.made

pub returns-then-not-is_spent_by : goal.returns-then-not-is_spent_by
returns-then-not-is_spent_by c =
    let u = changed c.args.ledger.now.unspent (changes_of c.args.coins.now.entries) in
    let left = without_inputs u c.args.inputs.now in
    let at : ℕ → OutPoint = λ n. record { txid = c.args.txid; index = n } in
    let there : is_some (finite.get u (at c.loop-output.index)) ≡ true = ap is_some (sym c.value_of.ensures) ∙ sym c.is_some.ensures ∙ c.if-is_some.true in
    let still : finite.contains_key left (at c.loop-output.index) ≡ true = still_there u c.args.inputs.now (at c.loop-output.index) there (λ named. false≢true (sym c.if-not-is_spent_by.true ∙ c.is_spent_by.ensures.1 named)) in
    remade_here left c.args.txid c.args.outputs.now c.loop-output.output-index c.output-item.result (make_outputs left c.args.txid 0 c.args.outputs.now) c.loop-output-test.true c.output-item.is
    (subst (λ (n : ℕ). finite.contains_key left (at n) ≡ true) c.loop-output.invariant.place still) c.loop-output.invariant.made

pub loop-output-preserved : goal.loop-output-preserved
loop-output-preserved c =
    let u = changed c.args.ledger.now.unspent (changes_of c.args.coins.now.entries) in
    let left = without_inputs u c.args.inputs.now in
    let at : ℕ → OutPoint = λ n. record { txid = c.args.txid; index = n } in
    let none : finite.get left (at c.loop-output.index) ≡ None = elim c.else-is_some.branch [
      | else-is_some-via-then-is_some+else-not-is_spent_by w ↦ gone_named u c.args.inputs.now (at c.loop-output.index) (w.is_spent_by.ensures.0 w.if-not-is_spent_by.false)
      | else-is_some-via-else-is_some w ↦ without_none (at c.loop-output.index) u c.args.inputs.now (is_none (finite.get u (at c.loop-output.index)) (ap is_some (sym c.value_of.ensures) ∙ sym c.is_some.ensures ∙ w.if-is_some.false))
    ] in
    record {
      place = omega (arith, c.loop-output.invariant.place);
      made = remade_more left c.args.txid c.args.outputs.now c.loop-output.output-index c.output-item.result (make_outputs left c.args.txid 0 c.args.outputs.now) c.loop-output-test.true c.output-item.is
          (subst (λ (n : ℕ). finite.get left (at n) ≡ None) c.loop-output.invariant.place none) c.loop-output.invariant.made;
    }
