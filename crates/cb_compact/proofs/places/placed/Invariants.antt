use Rattle.std.proofs.Common.{◌≡◌, ◌++◌, true, drop}
use Rattle.cb_compact.specs.Places.{placed_from, total_of}
use Rattle.cb_compact.proofs.Leading.{lead}
use Rattle.cb_compact.proofs.places.placed.Given as goal

abbrev pub invariant-loop-given : goal.invariant-loop-given
invariant-loop-given l = (l.list.items ++ placed_from l.least (drop l.given-index l.prefilled) ≡ placed_from 0 l.prefilled) × (lead (total_of l.fn.txs) l.least (drop l.given-index l.prefilled) ≡ true)
