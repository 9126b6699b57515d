use Rattle.std.proofs.Common.{◌≡◌, take}
use Rattle.cb_chain.proofs.Heights.{followers}
use Rattle.cb_chain.proofs.following.headers_from.Given as goal

abbrev pub invariant-loop-place : goal.invariant-loop-place
invariant-loop-place l = l.headers.items ≡ take l.place-index (followers l.tree.block_indexes l.height)
