use Rattle.std.proofs.Common.{◌≡◌, take}
use Rattle.cb_chain.proofs.index_list.IndexList.copy.Given as goal

abbrev pub invariant-loop-chunk : goal.invariant-loop-chunk
invariant-loop-chunk l = l.full.items ≡ take l.chunk-index l.self-inside.full.items
