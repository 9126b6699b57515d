use Rattle.std.proofs.Common.{◌≡◌, ◌++◌, drop}
use Rattle.cb_state.specs.Parts.{txs_at}
use Rattle.cb_state.proofs.serving_places.txs_at.Given as goal

abbrev pub invariant-loop-place : goal.invariant-loop-place
invariant-loop-place l = l.list.items ++ txs_at l.txs (drop l.place-index l.places) ≡ txs_at l.txs l.places
