use Rattle.std.proofs.Common.{◌≡◌, ◌∙◌, ap, List, Option, ℤ}
use Rattle.std.proofs.lemmas.Map.Entries.{entries_from_clone}
use Rattle.cb_base.specs.declared.hash.Hash256.{Hash256}
use Rattle.cb_block.specs.declared.tx.OutPoint.{OutPoint}
use Rattle.cb_ledger.specs.Undo.{changed, changes_of}
use Rattle.cb_pool.specs.declared.members.Pooled.{Pooled}
use Rattle.cb_pool.proofs.Named.{copied, members_kept, pooled_of}
use Rattle.cb_pool.proofs.members.Members.copy.Goals as goal

pub returns-clause-same : goal.returns-clause-same
returns-clause-same c =
    let same : c.in_ok-clone.field-0.entries ≡ c.self.inside.entries.entries = entries_from_clone (λ (x y : Hash256). y ≡ x) (λ (v w : Pooled). w ≡ v) (λ x y h. h) (λ v w h. h) c.self.inside.entries.entries c.in_ok-clone.field-0.entries c.in_ok-clone.ensures.cases in
    ap pooled_of same ∙ ap (λ held. held.list) c.self.view_is

pub invariant_of-result : goal.invariant_of-result
invariant_of-result c =
    let entries : c.in_ok-clone.field-0.entries ≡ c.self.inside.entries.entries = entries_from_clone (λ (x y : Hash256). y ≡ x) (λ (v w : Pooled). w ≡ v) (λ x y h. h) (λ v w h. h) c.self.inside.entries.entries c.in_ok-clone.field-0.entries c.in_ok-clone.ensures.cases in
    let coins : c.in_ok-clone-2.field-0.entries ≡ c.self.inside.coins.entries = entries_from_clone (λ (x y : OutPoint). y ≡ x) _ (λ x y h. h) (copied _ (λ y h. h) (λ x h. h) (λ x y h. h)) c.self.inside.coins.entries c.in_ok-clone-2.field-0.entries c.in_ok-clone-2.ensures.cases in
    members_kept c.self.inside.entries.entries c.in_ok-clone.field-0.entries c.self.inside.coins.entries c.in_ok-clone-2.field-0.entries c.self.invariant entries
    (λ u. ap (λ (l : List (OutPoint × Option ℤ)). changed u (changes_of l)) coins)
