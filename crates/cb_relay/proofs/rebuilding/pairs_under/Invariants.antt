use Rattle.std.proofs.Common.{◌≡◌, map, take}
use Rattle.cb_compact.specs.Matching.{pair_of}
use Rattle.cb_relay.proofs.rebuilding.pairs_under.Given as goal

abbrev pub invariant-loop-tx : goal.invariant-loop-tx
invariant-loop-tx l = l.pairs.items ≡ map (pair_of l.key) (take l.tx-index l.txs)
