use Rattle.std.proofs.Common.{◌≡◌, [], length}
use Rattle.cb_audit.specs.Heard.{ArePlaced}
use Rattle.cb_audit.proofs.heard.first_places.Given as goal

abbrev pub invariant-loop-one : goal.invariant-loop-one
invariant-loop-one l = (length l.places.items ≡ l.one-index) × ArePlaced l.kept l.audited (λ _. []) l.places.items
