use Rattle.std.proofs.Common.{◌≡◌, map, take}
use Rattle.cb_peer_state.specs.Fetching.{request_of}
use Rattle.cb_peer_state.proofs.fetch.request_entries.Given as goal

abbrev pub invariant-loop-hash : goal.invariant-loop-hash
invariant-loop-hash l = l.entries.items ≡ map (request_of l.compact) (take l.hash-index l.hashes)
