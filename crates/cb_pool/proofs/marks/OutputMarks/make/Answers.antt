use Rattle.std.proofs.Common.{◌≡◌, ◌∙◌, ◌+◌, ℕ, ap, sym, subst, arith, refl, take, cond, Some, SFits, rules}
use Rattle.std.specs.Int.{w64}
use Rattle.std.proofs.lemmas.Int.{to_z-of_z}
use Rattle.std.specs.FinMap.{insert}
use Rattle.cb_block.specs.declared.tx.OutPoint.{OutPoint}
use Rattle.cb_ledger.specs.Unspent.{Unspent}
use Rattle.cb_pool.specs.Leaving.{with_outputs}
use Rattle.cb_pool.specs.Staying.{Tells, mark_at, same_point}
use Rattle.cb_pool.specs.declared.marks.OutputMark.TheVariants.{Holds}
use Rattle.cb_pool.proofs.Left.{with_more}
use Rattle.cb_pool.proofs.Marking.{Put, made_more}
use Rattle.cb_pool.proofs.marks.OutputMarks.make.Goals as goal

pub loop-output-init : goal.loop-output-init
unfolding with_outputs
loop-output-init c = record { place = refl; tells = λ was now tells. tells }

pub loop-output-preserved : goal.loop-output-preserved
loop-output-preserved c =
    let txid = c.args.txid in
    let outputs = c.args.outputs.now in
    let i = c.loop-output.output-index in
    let value = c.output-item.result.value in
    let at : ℕ → OutPoint = λ n. record { txid = txid; index = n } in
    let fits : SFits w64 value = search rules in
    let put : Put (at c.loop-output.index) (Holds value) c.loop-output.self c.put.new.self =
    λ q. c.in_ok-put.ensures.put q ∙ ap (λ v. cond (same_point (at c.loop-output.index) q) (Some (Holds v)) (mark_at c.loop-output.self q)) (to_z-of_z w64 value fits) in
    record {
      place = omega (arith, c.loop-output.invariant.place);
      tells = λ was now tells.
          let before : Unspent = with_outputs now txid 0 (take i outputs) in
          let more : Tells c.put.new.self was (insert before (at c.loop-output.index) value) =
          made_more c.loop-output.self c.put.new.self (at c.loop-output.index) value was before put (c.loop-output.invariant.tells was now tells) in
          let is : insert before (at c.loop-output.index) value ≡ with_outputs now txid 0 (take (i + 1) outputs) =
          ap (λ (n : ℕ). insert before (at n) value) c.loop-output.invariant.place ∙ sym (with_more now txid outputs i c.output-item.result c.loop-output-test.true c.output-item.is) in
          subst (Tells c.put.new.self was) is more;
    }
