use Rattle.std.proofs.Common.{◌≡◌, map, take}
use Rattle.cb_relay.specs.Fields.{entry_of}
use Rattle.cb_relay.proofs.lists.entry_shapes.Given as goal

abbrev pub invariant-loop-entry : goal.invariant-loop-entry
invariant-loop-entry l = map entry_of l.list.items ≡ take l.entry-index l.entries
