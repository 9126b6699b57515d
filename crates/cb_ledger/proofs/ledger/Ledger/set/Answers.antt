use Rattle.std.proofs.Common.{ap, sym, ◌∙◌, Some, None, cond, SFits, w64, rules}
use Rattle.std.specs.Map.{lookup}
use Rattle.std.proofs.lemmas.Int.{to_z-of_z}
use Rattle.cb_block.proofs.Repeats.{same}
use Rattle.std.specs.FinMap.{get}
use Rattle.cb_ledger.specs.Undo.{set_at}
use Rattle.cb_ledger.proofs.Outpoints.{get_is, entries_insert, entries_remove}
use Rattle.cb_ledger.proofs.ledger.Ledger.set.Goals as goal

pub returns-in-Some-clause-before : goal.returns-in-Some-clause-before
returns-in-Some-clause-before c =
    (rw c.unwrap.ensures at c.insert-had.ensures.old) ∙ sym (get_is c.self.inside.outputs.entries c.args.point) ∙ ap (λ h. get h.unspent c.args.point) c.self.view_is

pub returns-in-Some-clause-after : goal.returns-in-Some-clause-after
returns-in-Some-clause-after c =
    let fits : SFits w64 c.in-Some.value = search rules in
    let updates = rw c.unwrap.ensures at c.insert-had.ensures.updates in
    rw c.in-Some.is (entries_insert c.self.inside.outputs.entries c.insert-had.new.self.entries c.args.point c.in-Some.value (λ q. updates.0 q ∙ ap (λ v. cond (same c.args.point q) (Some v) (lookup (same q) c.self.inside.outputs.entries)) (to_z-of_z w64 c.in-Some.value fits)) ∙ ap (λ h. set_at h.unspent c.args.point (Some c.in-Some.value)) c.self.view_is)

pub returns-in-None-clause-before : goal.returns-in-None-clause-before
returns-in-None-clause-before c =
    c.remove.ensures.value ∙ sym (get_is c.self.inside.outputs.entries c.args.point) ∙ ap (λ h. get h.unspent c.args.point) c.self.view_is

pub returns-in-None-clause-after : goal.returns-in-None-clause-after
returns-in-None-clause-after c =
    rw c.in-None.is (entries_remove c.self.inside.outputs.entries c.remove.new.self.entries c.args.point c.remove.ensures.updates.0 ∙ ap (λ h. set_at h.unspent c.args.point None) c.self.view_is)
