use Rattle.std.proofs.Common.{◌≡◌, map, take}
use Rattle.cb_chain.specs.Plans.{hash_at}
use Rattle.cb_chain.proofs.reorganising.hashes_at.Given as goal

abbrev pub invariant-loop-place : goal.invariant-loop-place
invariant-loop-place l = l.hashes.items ≡ map (hash_at l.tree.block_indexes) (take l.place-index l.places)
