use Rattle.std.proofs.Common.{◌≡◌, drop}
use Rattle.cb_peer_state.specs.Standing.{first_place}
use Rattle.cb_peer_state.proofs.fetch.Fetch.first_place.Given as goal

abbrev pub invariant-loop-hash : goal.invariant-loop-hash
invariant-loop-hash l = first_place l.self (drop l.hash-index l.hashes) ≡ first_place l.self l.hashes
