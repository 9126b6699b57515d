use Rattle.std.proofs.Common.{◌≡◌, ◌≤◌, ◌++◌, drop, length}
use Rattle.std.specs.Prelude.{filter}
use Rattle.cb_peer_state.specs.Questions.{is_known_type}
use Rattle.cb_peer.proofs.receiving.all_known.Given as goal

abbrev pub invariant-loop-entry : goal.invariant-loop-entry
invariant-loop-entry l = record { told : l.made.items ++ filter is_known_type (drop l.entry-index l.entries) ≡ filter is_known_type l.entries; few : length l.made.items ≤ l.entry-index }
