use Rattle.std.proofs.Common.{◌≡◌, ◌∙◌, ℕ, arith, inl, inr, subst, sym}
use Rattle.std.specs.Prelude.{nat_lt}
use Rattle.std.specs.FinMap as finite
use Rattle.std.proofs.lemmas.Bool.{cases_Bool, ltb-true, ltb-false}
use Rattle.cb_block.specs.declared.tx.OutPoint.{OutPoint}
use Rattle.cb_ledger.specs.Undo.{changed, changes_of}
use Rattle.cb_pool.specs.Leaving.{IsChanged}
use Rattle.cb_pool.proofs.Untouched.{changed_at, kept_at}
use Rattle.cb_pool.proofs.apart.keep_outputs.Goals as goal

pub loop-place-init : goal.loop-place-init
loop-place-init c = λ u place lt. absurd (omega (arith, lt))

pub returns-then-contains_key-clause-seen : goal.returns-then-contains_key-clause-seen
returns-then-contains_key-clause-seen c = λ few no.
    let at : ℕ → OutPoint = λ n. record { txid = c.args.txid; index = n } in
    let coins = c.args.coins.now.entries in
    let level : c.in-Ok.index ≡ c.loop-place.place = omega arith in
    (c.loop-place.place, omega arith, subst (λ (n : ℕ). IsChanged coins (at n)) level (changed_at coins (at c.in-Ok.index) (sym c.contains_key.ensures ∙ c.if-contains_key.true)))

pub loop-place-preserved : goal.loop-place-preserved
loop-place-preserved c = λ u place lt.
    let at : ℕ → OutPoint = λ n. record { txid = c.args.txid; index = n } in
    let coins = c.args.coins.now.entries in
    elim (cases_Bool (nat_lt place c.loop-place.place)) [
      | inl before ↦ c.loop-place.invariant u place (ltb-true place c.loop-place.place before)
      | inr here ↦
          let level : c.in-Ok.index ≡ place = omega (arith, lt, ltb-false place c.loop-place.place here) in
          subst (λ (n : ℕ). finite.get (changed u (changes_of coins)) (at n) ≡ finite.get u (at n)) level (kept_at coins (at c.in-Ok.index) (sym c.contains_key.ensures ∙ c.if-contains_key.false) u)
    ]
