use Rattle.std.proofs.Common.{[], List, map, sym, subst}
use Rattle.cb_block.specs.declared.tx.Tx.{Tx}
use Rattle.cb_pool.specs.declared.members.Pooled.{Pooled}
use Rattle.cb_pool.specs.Folding.{Refolds, Took, new_offer, old_offer}
use Rattle.cb_pool.specs.Listing.{Listing, Plan}
use Rattle.cb_pool.proofs.Taking.{nothing_applies, took_both}
use Rattle.cb_pool.proofs.pool.Pool.refold_with.Goals as goal

pub take_new-next-requires-clause-applies : goal.take_new-next-requires-clause-applies
take_new-next-requires-clause-applies c = rw c.plan.invariant (nothing_applies c.args.ledger.now.unspent)

pub returns-clause-folds : goal.returns-clause-folds
returns-clause-folds c =
    let u = c.args.ledger.now.unspent in
    let first : List Tx = c.plan.inside.first.items in
    let old : Listing = record { list = c.self.inside.members.list; next = c.self.inside.next } in
    let new : Listing = record { list = c.take_old.new.members.list; next = c.take_new-next.result } in
    let one : Took u (map new_offer first) [] old.next [] c.take_new-next.new.members.list c.take_new-next.result = subst (λ (l : List Pooled). Took u (map new_offer first) [] old.next l c.take_new-next.new.members.list c.take_new-next.result) c.plan.invariant c.take_new-next.ensures.took in
    let two : Took u (map old_offer old.list) [] c.take_new-next.result c.take_new-next.new.members.list new.list new.next = rw (sym c.replace-old.ensures.value) c.take_old.ensures.took in
    subst (λ (plan : Plan). Refolds u plan.first c.args.self.now new) c.plan.view_is (subst (λ (listing : Listing). Refolds u first listing new) c.self.view_is (took_both u first old new c.take_new-next.new.members.list c.take_new-next.result one two))
