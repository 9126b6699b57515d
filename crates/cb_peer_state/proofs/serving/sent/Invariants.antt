use Rattle.std.proofs.Common.{◌≡◌, ◌++◌, drop}
use Rattle.cb_peer_state.specs.Serving.{sent}
use Rattle.cb_peer_state.proofs.serving.sent.Given as goal

abbrev pub invariant-loop-piece : goal.invariant-loop-piece
invariant-loop-piece l = l.messages.items ++ sent l.next (drop l.piece-index l.pieces) ≡ sent l.nonce l.pieces
