use Rattle.std.proofs.Common.{◌≡◌, ◌≤◌, ◌++◌, drop, length}
use Rattle.std.specs.Prelude.{filter, not}
use Rattle.cb_chain.specs.Entries.{same}
use Rattle.cb_peer.proofs.replying.all_without.Given as goal

abbrev pub invariant-loop-txid : goal.invariant-loop-txid
invariant-loop-txid l = record { told : l.others.items ++ filter (λ txid. not (same l.brought txid)) (drop l.txid-index l.txids) ≡ filter (λ txid. not (same l.brought txid)) l.txids; few : length l.others.items ≤ l.txid-index }
