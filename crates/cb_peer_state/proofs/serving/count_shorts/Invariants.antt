use Rattle.std.proofs.Common.{◌≡◌, ◌+◌, ◌≤◌, drop}
use Rattle.cb_peer_state.specs.Serving.{shorts}
use Rattle.cb_peer_state.proofs.serving.count_shorts.Given as goal

abbrev pub invariant-loop-piece : goal.invariant-loop-piece
invariant-loop-piece l = record {
  counted : l.count + shorts (drop l.piece-index l.pieces) ≡ shorts l.pieces;
  few : l.count ≤ l.piece-index;
}
