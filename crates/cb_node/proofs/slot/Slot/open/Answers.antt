use Rattle.std.proofs.Common.{◌≡◌, Some, refl, sym, ap, ◌∙◌}
use Rattle.cb_peers.specs.declared.link.Link.{Link}
use Rattle.cb_node.specs.declared.slot.Seating.TheVariants as seating
use Rattle.cb_node.specs.Slot.{SlotState}
use Rattle.cb_node.proofs.Linking.{in_slot, none_in_slot}
use Rattle.cb_node.proofs.Seatings.{seating_opened, seating_refused}
use Rattle.cb_node.proofs.slot.Slot.open.Goals as goal

pub invariant_of-self-in-Ok : goal.invariant_of-self-in-Ok
invariant_of-self-in-Ok g c =
    let there = c.in-Some-Kept.is in
    let which = c.in-Some-Kept.field-0-is in
    let taken = c.take-2.ensures.value in
    let kept : c.self.inside.seating ≡ Some (seating.Kept c.in-Some-Kept.side) = cc in
    let idle = ap (λ (slot : SlotState). slot.waits) c.self.view_is ∙ c.requires.lasts in (
      seating_opened _ _ _ _ c.in-Some-Kept.side c.live.result c.in-Ok.seat _ kept c.self.invariant.0 idle c.live.ensures c.in-Ok.ensures.opened,
      c.self.invariant.1,
      c.self.invariant.2,
      ap (λ (link : Link). link.peer) c.replace.ensures.after ∙ in_slot (λ next. next.link) _ _ c.in-Some.next c.self.invariant.4 (sym c.take.ensures.value ∙ c.in-Some.is),
      none_in_slot (λ next. next.link) _ _ c.take.ensures.after,
      λ unused. refl,
    )

pub invariant_of-self-in-Err : goal.invariant_of-self-in-Err
invariant_of-self-in-Err g c =
    let there = c.in-Some-Kept.is in
    let which = c.in-Some-Kept.field-0-is in
    let taken = c.take-2.ensures.value in
    let kept : c.self.inside.seating ≡ Some (seating.Kept c.in-Some-Kept.side) = cc in
    let idle = ap (λ (slot : SlotState). slot.waits) c.self.view_is ∙ c.requires.lasts in (
      seating_refused _ _ _ _ c.in-Some-Kept.side c.in-Err.field-0.side kept c.self.invariant.0 c.in-Err.ensures.side.0 idle,
      c.self.invariant.1,
      c.self.invariant.2,
      c.self.invariant.3,
      in_slot (λ next. next.link) _ _ c.in-Some.next c.self.invariant.4 (sym c.take.ensures.value ∙ c.in-Some.is),
      c.self.invariant.5,
    )
