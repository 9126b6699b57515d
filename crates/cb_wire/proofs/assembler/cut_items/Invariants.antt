use Rattle.std.proofs.Common.{◌≡◌, ◌-◌, ◌≤◌, List, ◌++◌, ℕ, length, drop, Option}
use Rattle.cb_base.specs.declared.fault.Fault.{Fault}
use Rattle.cb_wire.specs.declared.item.Item.{Item}
use Rattle.cb_wire.specs.declared.envelope.Front.TheVariants.{Partial}
use Rattle.cb_wire.specs.Envelope.{front_at}
use Rattle.cb_wire.specs.Hashes.{Foretells}
use Rattle.cb_wire.specs.Stream.{Stream}
use Rattle.cb_wire.proofs.assembler.cut_items.Given as goal

-- what the bytes left over spell comes behind the items so far
abbrev pub invariant-loop-size : goal.invariant-loop-size
invariant-loop-size l = record {
  shorter : length l.rest ≤ length l.bytes;
  left : drop (length l.bytes - length l.rest) l.bytes ≡ l.rest;
  spells : (more : List Item) (rest : List ℕ) (fault : Option Fault) → Stream l.rest more rest fault → Stream l.bytes (l.items.items ++ more) rest fault;
  ahead : Foretells l.rest l.hashes;
  none : front_at l.bytes ≡ Partial → l.rest ≡ l.bytes;
}

abbrev pub decreases-loop-size : goal.decreases-loop-size
decreases-loop-size l = length l.rest
