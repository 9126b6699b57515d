use Rattle.std.proofs.Common.{◌≡◌, ◌≤◌, ◌++◌, drop, length}
use Rattle.std.specs.Prelude.{filter_map}
use Rattle.cb_peer_state.specs.Replying.{tx_request}
use Rattle.cb_peer.proofs.replying.tx_requests.Given as goal

abbrev pub invariant-loop-entry : goal.invariant-loop-entry
invariant-loop-entry l = record { told : l.wanted.items ++ filter_map tx_request (drop l.entry-index l.entries) ≡ filter_map tx_request l.entries; few : length l.wanted.items ≤ l.entry-index }
