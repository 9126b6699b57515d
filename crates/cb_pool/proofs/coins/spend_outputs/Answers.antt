use Rattle.std.proofs.Common.{◌∙◌, ap, sym, arith, None, refl}
use Rattle.std.specs.FinMap.{remove}
use Rattle.cb_ledger.specs.Undo.{changed, changes_of}
use Rattle.cb_ledger.proofs.Changes.{changed_note}
use Rattle.cb_pool.specs.Leaving.{without_inputs}
use Rattle.cb_pool.proofs.Left.{without_more}
use Rattle.cb_pool.proofs.coins.spend_outputs.Goals as goal

pub loop-input-init : goal.loop-input-init
unfolding without_inputs
loop-input-init c = record { gone = λ u. refl; room = omega arith }

pub loop-input-preserved : goal.loop-input-preserved
loop-input-preserved c =
    let updates = rw c.unwrap.ensures at c.insert-had.ensures.updates in
    record {
      gone = λ u.
          changed_note c.loop-input.coins.entries c.insert-had.new.self.entries c.input-item.result.prev None updates.0 u
          ∙ ap (λ m. remove m c.input-item.result.prev) (c.loop-input.invariant.gone u)
          ∙ sym (without_more (changed u (changes_of c.args.coins.now.entries)) c.args.inputs.now c.loop-input.input-index c.input-item.result c.loop-input-test.true c.input-item.is);
      room = omega (arith, c.loop-input.invariant.room, c.insert-had.ensures.spare);
    }
