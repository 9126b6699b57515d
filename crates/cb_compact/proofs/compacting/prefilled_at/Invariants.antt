use Rattle.std.proofs.Common.{◌≡◌, take, All, slice_get, Some}
use Rattle.cb_compact.specs.Forms.{places_of}
use Rattle.cb_compact.proofs.compacting.prefilled_at.Given as goal

abbrev pub invariant-loop-place : goal.invariant-loop-place
invariant-loop-place l = (places_of l.prefilled.items ≡ take l.place-index l.places) × All (λ given. slice_get l.txs given.place ≡ Some given.tx) l.prefilled.items
