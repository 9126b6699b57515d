use Rattle.std.proofs.Common.{◌∙◌}
use Rattle.cb_pool.specs.Listing.{txs_of}
use Rattle.cb_state.proofs.Mined.{names_next}
use Rattle.cb_state.proofs.mining.txids_behind.Goals as goal

pub loop-place-preserved : goal.loop-place-preserved
loop-place-preserved c =
    c.in_ok-push-2.ensures.items
    ∙ names_next c.args.coinbase.now (txs_of c.args.pool.now.list) c.loop-place.place c.waiting_at.result.now c.loop-place.txids.items c.txid-in-loop-place.result c.waiting_at.ensures c.loop-place.invariant c.txid-in-loop-place.ensures
