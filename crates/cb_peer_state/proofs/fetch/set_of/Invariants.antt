use Rattle.std.proofs.Common.{◌≡◌, take}
use Rattle.std.specs.HashSet.{hasher_of}
use Rattle.cb_base.specs.declared.hash.Hash256.{Hash256}
use Rattle.cb_peer_state.specs.Fetching.{has}
use Rattle.cb_peer_state.proofs.fetch.set_of.Given as goal

abbrev pub invariant-loop-hash : goal.invariant-loop-hash
invariant-loop-hash l = ((hash : Hash256) → has l.set.keys hash ≡ has (take l.hash-index l.hashes) hash) × (hasher_of l.set ≡ l.fn.seed)
