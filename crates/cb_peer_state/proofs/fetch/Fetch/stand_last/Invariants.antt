use Rattle.std.proofs.Common.{◌≡◌, drop}
use Rattle.cb_peer_state.specs.Standing.{stand_last}
use Rattle.cb_peer_state.proofs.fetch.Fetch.stand_last.Given as goal

abbrev pub invariant-loop-hash : goal.invariant-loop-hash
invariant-loop-hash l = stand_last l.self l.first l.next (drop l.hash-index l.hashes) ≡ stand_last l.self l.first l.first l.hashes
