use Rattle.std.proofs.Common.{◌≡◌, ◌++◌, drop, map}
use Rattle.std.specs.Prelude.{filter, nat_eq}
use Rattle.std.specs.HashSet.{contains}
use Rattle.cb_compact.specs.Matching.{pair_of}
use Rattle.cb_compact.proofs.pairs.paired.Given as goal

abbrev pub invariant-loop-named : goal.invariant-loop-named
invariant-loop-named l =
    l.list.items ++ filter (λ pair. contains nat_eq l.wanted pair.id) (map (pair_of l.key) (drop l.named-index l.txs))
    ≡ filter (λ pair. contains nat_eq l.wanted pair.id) (map (pair_of l.key) l.txs)
