use Rattle.std.proofs.Common.{◌≡◌, map, take}
use Rattle.cb_peer_state.specs.Announcing.{tx_entry}
use Rattle.cb_peer_state.proofs.announcing.tx_entries.Given as goal

abbrev pub invariant-loop-txid : goal.invariant-loop-txid
invariant-loop-txid l = l.entries.items ≡ map tx_entry (take l.txid-index l.txids)
