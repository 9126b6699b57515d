use Rattle.std.proofs.Common.{◌≡◌, List, [], ap, subst, sym}
use Rattle.std.specs.Prelude.{IsOk}
use Rattle.cb_ledger.specs.Spend.{spend}
use Rattle.cb_pool.specs.declared.members.Pooled.{Pooled}
use Rattle.cb_pool.specs.Folding.{Refolds}
use Rattle.cb_pool.specs.Listing.{AreNumbered, Listing, txs_of}
use Rattle.cb_pool.specs.Staying.{Fits, StaysOf, staying}
use Rattle.cb_pool.proofs.Thinner.{numbers_out}
use Rattle.cb_pool.proofs.pool.Pool.thin_with.Goals as goal

pub thin-requires : goal.thin-requires
thin-requires c = subst (λ (held : Listing). Fits c.args.plan held.list) (sym c.self.view_is) c.requires.fits

pub invariant_of-self : goal.invariant_of-self
invariant_of-self c = (rw c.thin.ensures (numbers_out c.args.plan.gone c.self.inside.members.list c.self.inside.next c.self.invariant.0), tt)

pub returns-clause-folds : goal.returns-clause-folds
returns-clause-folds c =
    let u = c.args.ledger.now.unspent in
    let next = c.self.inside.next in
    let list = c.self.inside.members.list in
    let old : Listing = record { list = list; next = next } in
    let stay : StaysOf u list (staying c.args.plan.gone list) = subst (λ (held : Listing). StaysOf u held.list (staying c.args.plan.gone held.list)) (sym c.self.view_is) c.requires.stay in
    let inside : Refolds u [] old (record { list = c.thin.new.self.list; next = next }) = subst (λ (l : List Pooled). Refolds u [] old (record { list = l; next = next })) (sym c.thin.ensures) (stay.refolds next) in
    subst (λ (held : Listing). Refolds u [] held (record { list = c.thin.new.self.list; next = next })) c.self.view_is inside

pub returns-clause-applies : goal.returns-clause-applies
returns-clause-applies c =
    let u = c.args.ledger.now.unspent in
    let list = c.self.inside.members.list in
    let stay : StaysOf u list (staying c.args.plan.gone list) = subst (λ (held : Listing). StaysOf u held.list (staying c.args.plan.gone held.list)) (sym c.self.view_is) c.requires.stay in
    subst (λ (l : List Pooled). IsOk (spend u (txs_of l))) (sym c.thin.ensures) stay.spends
