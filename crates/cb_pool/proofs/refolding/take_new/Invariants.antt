use Rattle.std.proofs.Common.{◌≤◌, ◌+◌, ◌++◌, List, length, map}
use Rattle.std.specs.Prelude.{IsOk}
use Rattle.std.specs.Vec.Iter.{into_iter_items}
use Rattle.cb_ledger.specs.Spend.{spend}
use Rattle.cb_pool.specs.declared.members.Pooled.{Pooled}
use Rattle.cb_pool.specs.Folding.{Took, new_offer}
use Rattle.cb_pool.specs.Leaving.{touched_by_all}
use Rattle.cb_pool.specs.Listing.{AreNumbered, txs_of}
use Rattle.cb_pool.proofs.refolding.take_new.Given as goal

abbrev pub invariant-loop-candidate : goal.invariant-loop-candidate
invariant-loop-candidate l = record {
  applies : IsOk (spend l.ledger.unspent (txs_of l.members.list));
  took : Took l.ledger.unspent (map new_offer l.fn.first.items) (map new_offer (into_iter_items l.candidate-iterator)) l.fn.next l.fn.members.list l.members.list l.next;
  numbers : (others : List Pooled) → AreNumbered (l.fn.members.list ++ others) l.fn.next → AreNumbered (l.members.list ++ others) l.next;
  places : l.fn.members.places + length (into_iter_items l.candidate-iterator) ≤ l.members.places + length l.fn.first.items;
  coins : l.fn.members.coins + touched_by_all (into_iter_items l.candidate-iterator) ≤ l.members.coins + touched_by_all l.fn.first.items;
}
