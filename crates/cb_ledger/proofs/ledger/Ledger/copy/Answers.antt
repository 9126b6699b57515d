use Rattle.std.proofs.Common.{◌≡◌, ◌∙◌, ap, ℤ, false, true}
use Rattle.std.specs.FinMap.{from_entries}
use Rattle.std.proofs.lemmas.Bool.{false≢true}
use Rattle.std.proofs.lemmas.Map.Entries.{entries_from_clone}
use Rattle.cb_block.specs.declared.tx.OutPoint.{OutPoint}
use Rattle.cb_ledger.proofs.Outpoints.{entries_none}
use Rattle.cb_ledger.proofs.ledger.Ledger.copy.Goals as goal

pub returns-in_err-outputs-clause-none : goal.returns-in_err-outputs-clause-none
returns-in_err-outputs-clause-none c = λ none.
    absurd (let z : false ≡ true = c.if-is_empty.ensures.1 (entries_none c.self.inside.outputs.entries (ap (λ h. h.unspent) c.self.view_is ∙ none)) in false≢true z)

pub returns-clause-same : goal.returns-clause-same
returns-clause-same c =
    let same : c.in_ok-outputs.outputs.entries ≡ c.self.inside.outputs.entries = entries_from_clone (λ (x y : OutPoint). y ≡ x) (λ (v w : ℤ). w ≡ v) (λ x y h. h) (λ v w h. h) c.self.inside.outputs.entries c.in_ok-outputs.outputs.entries c.in_ok-outputs.ensures.cases in
    ap from_entries same ∙ ap (λ h. h.unspent) c.self.view_is
