use Rattle.std.proofs.Common.{◌≡◌, ◌++◌, ℕ, List, []}
use Rattle.std.specs.Vec.Iter.{into_iter_items}
use Rattle.cb_compact.specs.Slots.{AreDifferent}
use Rattle.cb_compact.specs.Tables.{IsTable}
use Rattle.cb_compact.specs.declared.named_tx.Pair.{Pair}
use Rattle.cb_compact.proofs.table.Table.found_among.Given as goal

abbrev pub invariant-loop-pair : goal.invariant-loop-pair
invariant-loop-pair l = (before : List Pair) × (before ++ into_iter_items l.pair-iterator ≡ l.fn.pairs.items)
    × ((ids : List ℕ) → AreDifferent ids → IsTable ids [] l.fn.self → IsTable ids before l.table)
