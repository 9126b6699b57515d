use Rattle.std.proofs.Common.{length, ap, ◌∙◌, arith}
use Rattle.std.proofs.lemmas.List.{length_push, nil_from_length}
use Rattle.cb_crew.specs.Crew.{HasPlace, inbox_of}
use Rattle.cb_peers.specs.Reading.{QueuedWhatItRead}
use Rattle.cb_node.specs.Slot.{SlotState}
use Rattle.cb_node.proofs.Placing.{sides_all, sides_more, zip_on}
use Rattle.cb_node.proofs.crewing.sides_of.Goals as goal

pub loop-slot-preserved : goal.loop-slot-preserved
loop-slot-preserved g c =
    let got = sides_more inbox_of (λ (s : SlotState). s.inbox.name) HasPlace _ _ c.into_side-side.result.0 c.in-Some.slot _ _ _ c.loop-slot.invariant.1 c.loop-slot.invariant.2 c.in-Some.ensures.steps.0 c.push_reserved.ensures.items c.into_side-side.ensures.inbox c.into_side-side.ensures.place in (
      omega (arith, c.push_reserved.ensures.capacity, ap length c.push_reserved.ensures.items ∙ length_push c.loop-slot.sides.items c.into_side-side.result.0, ap length c.in-Some.ensures.steps.0, c.loop-slot.invariant.0),
      got.0,
      got.1,
      zip_on QueuedWhatItRead _ _ _ _ _ _ c.loop-slot.invariant.3 c.add.ensures c.push_reserved.ensures.items c.into_side-side.ensures.read,
    )

pub returns-clause-inboxes : goal.returns-clause-inboxes
returns-clause-inboxes g c =
    sides_all inbox_of (λ (s : SlotState). s.inbox.name) _ _ _ c.loop-slot.invariant.1 (nil_from_length c.loop-slot.slot-iterator.rest.items (omega (arith, c.in-None.ensures.steps.0, c.loop-slot.slot-iterator.rest.ok.0)))
