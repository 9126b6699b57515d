use Rattle.std.proofs.Common.{◌∙◌, ap, sym, arith, Some, refl, ℕ, SFits, rules, cond, take}
use Rattle.std.specs.Int.{w64}
use Rattle.std.specs.FinMap.{insert}
use Rattle.std.specs.Map.{lookup}
use Rattle.std.proofs.lemmas.Int.{to_z-of_z}
use Rattle.cb_block.specs.declared.tx.OutPoint.{OutPoint}
use Rattle.cb_block.proofs.Repeats.{same}
use Rattle.cb_ledger.specs.Undo.{changed, changes_of}
use Rattle.cb_ledger.proofs.Changes.{changed_note}
use Rattle.cb_pool.specs.Leaving.{with_outputs}
use Rattle.cb_pool.proofs.Left.{with_more}
use Rattle.cb_pool.proofs.coins.make_outputs.Goals as goal

pub loop-output-init : goal.loop-output-init
unfolding with_outputs
loop-output-init c = record { place = refl; made = λ u. refl; room = omega arith }

pub loop-output-preserved : goal.loop-output-preserved
loop-output-preserved c =
    let updates = rw c.unwrap.ensures at c.insert-had.ensures.updates in
    let value = c.output-item.result.value in
    let fits : SFits w64 value = search rules in
    let at : ℕ → OutPoint = λ n. record { txid = c.args.txid; index = n } in
    record {
      place = omega (arith, c.loop-output.invariant.place);
      made = λ u.
          changed_note c.loop-output.coins.entries c.insert-had.new.self.entries (at c.loop-output.index) (Some value)
          (λ q. updates.0 q ∙ ap (λ v. cond (same (at c.loop-output.index) q) (Some (Some v)) (lookup (same q) c.loop-output.coins.entries)) (to_z-of_z w64 value fits)) u
          ∙ ap (λ m. insert m (at c.loop-output.index) value) (c.loop-output.invariant.made u)
          ∙ ap (λ n. insert (with_outputs (changed u (changes_of c.args.coins.now.entries)) c.args.txid 0 (take c.loop-output.output-index c.args.outputs.now)) (at n) value) c.loop-output.invariant.place
          ∙ sym (with_more (changed u (changes_of c.args.coins.now.entries)) c.args.txid c.args.outputs.now c.loop-output.output-index c.output-item.result c.loop-output-test.true c.output-item.is);
      room = omega (arith, c.loop-output.invariant.room, c.insert-had.ensures.spare);
    }
