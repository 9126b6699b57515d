use Rattle.std.proofs.Common.{◌≡◌, ◌++◌, drop}
use Rattle.cb_relay.specs.Serving.{txs_at}
use Rattle.cb_relay.proofs.serving.txs_at.Given as goal

abbrev pub invariant-loop-place : goal.invariant-loop-place
invariant-loop-place l = l.list.items ++ txs_at l.txs (drop l.place-index l.places) ≡ txs_at l.txs l.places
