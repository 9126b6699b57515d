use Rattle.std.proofs.Common.{refl, ap, sym, ◌∙◌}
use Rattle.cb_crew.specs.Seat.{InboxState}
use Rattle.cb_crew.specs.Crew.{inbox_of}
use Rattle.cb_node.proofs.Seatings.{lasts_live, read_new}
use Rattle.cb_node.proofs.slot.Slot.new.Goals as goal

pub invariant_of-result : goal.invariant_of-result
invariant_of-result g c = (
  (ap inbox_of c.live.ensures ∙ ap (λ s. s.inbox) c.requires.seat ∙ sym (ap (λ (i : InboxState). i.name) c.of.ensures), lasts_live c.live.result c.args.seat c.live.ensures, read_new c.args.inbox.now.name c.live.result c.args.seat c.nothing.result c.live.ensures c.requires.seat c.nothing.ensures),
  tt,
  c.peer.ensures ∙ sym (ap (λ (i : InboxState). i.peer) c.of.ensures),
  c.requires.link ∙ sym c.peer.ensures,
  tt,
  λ unused. refl,
)
