use Rattle.std.proofs.Common.{◌≤◌, ◌++◌, length, map}
use Rattle.std.specs.Prelude.{IsOk}
use Rattle.cb_ledger.specs.Spend.{spend}
use Rattle.cb_pool.specs.Folding.{Took, old_offer}
use Rattle.cb_pool.specs.Leaving.{touched_by_all}
use Rattle.cb_pool.specs.Listing.{AreNumbered, txs_of}
use Rattle.cb_pool.proofs.refolding.take_old.Given as goal

abbrev pub invariant-loop-pooled : goal.invariant-loop-pooled
invariant-loop-pooled l = record {
  applies : IsOk (spend l.ledger.unspent (txs_of l.members.list));
  took : Took l.ledger.unspent (map old_offer l.fn.old.list) (map old_offer l.pooled-iterator) l.fn.next l.fn.members.list l.members.list l.fn.next;
  numbers : AreNumbered (l.members.list ++ l.pooled-iterator) l.fn.next;
  places : length l.pooled-iterator ≤ l.members.places;
  coins : touched_by_all (txs_of l.pooled-iterator) ≤ l.members.coins;
}
