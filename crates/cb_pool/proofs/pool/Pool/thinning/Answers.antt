use Rattle.std.proofs.Common.{◌≡◌, Ok, subst}
use Rattle.std.specs.Prelude.{IsOk}
use Rattle.cb_ledger.specs.Spend.{spend}
use Rattle.cb_ledger.specs.Unspent.{Unspent}
use Rattle.cb_pool.specs.Listing.{Listing, txs_of}
use Rattle.cb_pool.specs.Staying.{ThinsOut}
use Rattle.cb_pool.proofs.pool.Pool.thinning.Goals as goal

pub returns-clause-thins : goal.returns-clause-thins
returns-clause-thins c =
    subst (λ (held : Listing). (was now : Unspent) → IsOk (spend was (txs_of held.list)) → spend was c.args.block.now.txs ≡ Ok now → ThinsOut now c.work_out.new.plan held.list) c.self.view_is
    (c.in_ok-work_out.ensures.thins c.if-not-branch.false)
