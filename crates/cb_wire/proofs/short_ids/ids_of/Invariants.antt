use Rattle.std.proofs.Common.{◌≡◌, ◌-◌, All}
use Rattle.cb_block.specs.TxReading.{items_at}
use Rattle.cb_block.proofs.Loop.{with_front}
use Rattle.cb_wire.specs.ShortForms.{IsShortId, short_id_at}
use Rattle.cb_wire.proofs.short_ids.ids_of.Given as goal

-- what was read and what is still read are all of the ids
abbrev pub invariant-loop : goal.invariant-loop
invariant-loop l = record {
  read : with_front l.ids.items (items_at short_id_at (l.count - l.counter) l.cursor) ≡ items_at short_id_at l.count l.fn.cursor;
  low : All IsShortId l.ids.items;
}
