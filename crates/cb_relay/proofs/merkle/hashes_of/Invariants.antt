use Rattle.std.proofs.Common.{◌≡◌, map, take}
use Rattle.cb_relay.specs.Shapes.{hash_of}
use Rattle.cb_relay.proofs.merkle.hashes_of.Given as goal

abbrev pub invariant-loop-hash : goal.invariant-loop-hash
invariant-loop-hash l = l.list.items ≡ map hash_of (take l.hash-index l.hashes)
