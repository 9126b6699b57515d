use Rattle.cb_chain.proofs.Heights.{Taken, followers}
use Rattle.cb_chain.proofs.following.headers_to.Given as goal

abbrev pub invariant-loop-place : goal.invariant-loop-place
invariant-loop-place l = Taken l.stop (followers l.tree.block_indexes l.height) l.place-index l.headers.items
