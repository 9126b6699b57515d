use Rattle.std.proofs.Common.{◌≡◌, take}
use Rattle.cb_peer_state.specs.Fetching.{as_blocks}
use Rattle.cb_peer_state.proofs.fetch.block_entries.Given as goal

abbrev pub invariant-loop-hash : goal.invariant-loop-hash
invariant-loop-hash l = l.entries.items ≡ as_blocks (take l.hash-index l.hashes)
