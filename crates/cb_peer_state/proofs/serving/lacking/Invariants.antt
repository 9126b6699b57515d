use Rattle.std.proofs.Common.{◌≡◌, ◌≤◌, ◌++◌, drop, length}
use Rattle.std.specs.Prelude.{filter_map}
use Rattle.cb_peer_state.specs.Serving.{lacking_in}
use Rattle.cb_peer_state.proofs.serving.lacking.Given as goal

abbrev pub invariant-loop-piece : goal.invariant-loop-piece
invariant-loop-piece l = record {
  told : l.entries.items ++ filter_map lacking_in (drop l.piece-index l.pieces) ≡ filter_map lacking_in l.pieces;
  few : length l.entries.items ≤ l.piece-index;
}
