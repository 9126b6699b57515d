use Rattle.std.proofs.Common.{◌∷◌, ◌++◌, [], List, Some, ◌∙◌, ap, sym}
use Rattle.cb_block.specs.declared.tx.Tx.{Tx}
use Rattle.cb_pool.specs.Listing.{txs_of}
use Rattle.cb_state.proofs.Fits.{take_next}
use Rattle.cb_state.proofs.mining.txs_behind.Goals as goal

pub loop-place-preserved : goal.loop-place-preserved
loop-place-preserved c =
    c.in_ok-push-2.ensures.items
    ∙ ap (λ (txs : List Tx). txs ++ c.in_ok-clone.field-0 ∷ []) c.loop-place.invariant
    ∙ ap (λ (txs : List Tx). c.args.coinbase ∷ txs)
    (sym (take_next (txs_of c.args.pool.now.list) c.loop-place.place c.in_ok-clone.field-0 (c.waiting_at.ensures ∙ ap Some (sym (c.in_ok-clone.ensures ∙ c.tx.ensures.same)))))
