use Rattle.std.proofs.Common.{subst}
use Rattle.cb_pool.specs.Listing.{Listing, txs_of}
use Rattle.cb_pool.specs.Values.{IsValueAfter}
use Rattle.cb_pool.proofs.pool.Pool.value.Goals as goal

pub returns : goal.returns
returns c =
    subst (λ (p : Listing). IsValueAfter c.args.ledger.now.unspent (txs_of p.list) c.args.point.now c.value.result) c.self.view_is c.value.ensures
