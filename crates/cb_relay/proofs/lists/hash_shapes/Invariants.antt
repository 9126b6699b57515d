use Rattle.std.proofs.Common.{◌≡◌, map, take}
use Rattle.cb_relay.specs.Shapes.{hash_of}
use Rattle.cb_relay.proofs.lists.hash_shapes.Given as goal

abbrev pub invariant-loop-hash : goal.invariant-loop-hash
invariant-loop-hash l = map hash_of l.list.items ≡ take l.hash-index l.hashes
