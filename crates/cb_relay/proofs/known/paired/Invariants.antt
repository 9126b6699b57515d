use Rattle.std.proofs.Common.{◌≡◌, ◌++◌, drop}
use Rattle.std.specs.Prelude.{filter, nat_eq}
use Rattle.std.specs.HashSet.{contains}
use Rattle.cb_relay.specs.Known.{told_pairs}
use Rattle.cb_relay.proofs.known.paired.Given as goal

abbrev pub invariant-loop-place : goal.invariant-loop-place
invariant-loop-place l =
    l.list.items ++ filter (λ pair. contains nat_eq l.wanted pair.id) (told_pairs l.key (drop l.place l.txids) (drop l.place l.txs))
    ≡ filter (λ pair. contains nat_eq l.wanted pair.id) (told_pairs l.key l.txids l.txs)
