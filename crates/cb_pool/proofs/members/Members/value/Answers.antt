use Rattle.std.proofs.Common.{◌≡◌, ◌∙◌, ap, sym, subst}
use Rattle.std.specs.Prelude.{IsOk}
use Rattle.std.specs.FinMap as map
use Rattle.cb_ledger.specs.Spend.{spend}
use Rattle.cb_ledger.specs.Unspent.{Unspent}
use Rattle.cb_pool.specs.Leaving.{after_txs}
use Rattle.cb_pool.specs.Listing.{Roomy, txs_of}
use Rattle.cb_pool.specs.Values.{IsValueAfter}
use Rattle.cb_pool.proofs.Named.{pooled_of}
use Rattle.cb_pool.proofs.Spent.{applied}
use Rattle.cb_pool.proofs.members.Members.value.Goals as goal

pub returns : goal.returns
returns c =
    let list = pooled_of c.self.inside.entries.entries in
    let u = c.args.ledger.now.unspent in
    let ok : IsOk (spend u (txs_of list)) = subst (λ (held : Roomy). IsOk (spend u (txs_of held.list))) (sym c.self.view_is) c.requires in
    subst (λ (held : Roomy). IsValueAfter u (txs_of held.list) c.args.point.now c.value_of.result) c.self.view_is (
      after_txs u (txs_of list),
      applied u list c.self.invariant.alone ok,
      c.value_of.ensures ∙ ap (λ (m : Unspent). map.get m c.args.point.now) (c.self.invariant.after u),
    )
