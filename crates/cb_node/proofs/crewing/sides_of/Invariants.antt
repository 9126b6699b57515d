use Rattle.std.proofs.Common.{◌≡◌, ◌≤◌, ◌+◌, ◌++◌, length, map, All, vec_capacity}
use Rattle.std.specs.List.{AllZip}
use Rattle.cb_crew.specs.Crew.{HasPlace, inbox_of}
use Rattle.cb_peers.specs.Reading.{QueuedWhatItRead}
use Rattle.cb_node.specs.Slot.{names_in}
use Rattle.cb_node.proofs.crewing.sides_of.Given as goal

abbrev pub invariant-loop-slot : goal.invariant-loop-slot
invariant-loop-slot g l =
    (length l.sides.items + length l.slot-iterator.rest.items ≤ vec_capacity l.sides)
    × (map inbox_of l.sides.items ++ names_in l.slot-iterator.rest.items ≡ names_in l.fn.slots.items)
    × All HasPlace l.sides.items
    × AllZip QueuedWhatItRead l.read l.sides.items
