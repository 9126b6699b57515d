use Rattle.std.proofs.Common.{◌≡◌, Some, false, refl}
use Rattle.cb_node.specs.declared.slot.Seating.TheVariants as seating
use Rattle.cb_node.proofs.Seatings.{kept_of, read_all}
use Rattle.cb_node.proofs.slot.Slot.into_side.Goals as goal

pub returns-in-Some-Kept-clause-read : goal.returns-in-Some-Kept-clause-read
returns-in-Some-Kept-clause-read g c =
    let there = c.in-Some-Kept.is in
    let which = c.in-Some-Kept.field-0-is in
    let kept : c.self.inside.seating ≡ Some (seating.Kept c.in-Some-Kept.side) = cc in
    read_all _ _ _ c.in-Some-Kept.side c.into_side.result c.into_side.ensures.side c.end_reads.ensures (kept_of _ _ _ _ c.in-Some-Kept.side kept c.self.invariant.0)

pub returns-in-Some-Lent-clause-read : goal.returns-in-Some-Lent-clause-read
returns-in-Some-Lent-clause-read g c =
    read_all false c.side_of-side.new.read c.side_of-side.new.read c.side_of-side.result c.into_side-in-Some-Lent.result c.into_side-in-Some-Lent.ensures.side refl c.side_of-side.ensures.read
