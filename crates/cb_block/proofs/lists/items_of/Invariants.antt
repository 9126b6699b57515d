use Rattle.std.proofs.Common.{◌≡◌, ◌-◌, ◌≤◌, length}
use Rattle.cb_block.specs.TxReading.{items_at}
use Rattle.cb_block.proofs.Loop.{with_front}
use Rattle.cb_block.proofs.lists.items_of.Given as goal

-- what was read and what is still read are all of the items
abbrev pub invariant-loop : goal.invariant-loop
invariant-loop g l = record {
  read : with_front l.items.items (items_at g.T.Coded.item_at (l.count - l.counter) l.cursor) ≡ items_at g.T.Coded.item_at l.count l.fn.cursor;
  few : length l.items.items ≡ l.counter;
  within : l.counter ≤ l.count;
}
