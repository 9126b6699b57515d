use Rattle.std.proofs.Common.{rules, ◌+◌, ◌++◌, ◌∷◌, [], length, ap, sym, ◌∙◌, arith}
use Rattle.std.proofs.lemmas.List.{length_push}
use Rattle.std.specs.Iterator.Adapters.{zip_first, zip_second}
use Rattle.cb_crew.specs.Seat.{opening_seat}
use Rattle.cb_crew.proofs.NewCrews.{none_left}
use Rattle.cb_node.proofs.Linking.{first_number, later_numbers, peer_of}
use Rattle.cb_node.proofs.Placing.{placing_all, placing_more, seat_here, some_left}
use Rattle.cb_node.proofs.crewing.slots_of.Goals as goal

pub new-requires-clause-seat : goal.new-requires-clause-seat
new-requires-clause-seat g c =
    (seat_here opening_seat c.args.crew.now.inboxes c.loop-seat.number c.inbox-inbox.result.now c.in-Some.seat _ _ c.loop-seat.invariant.placing.seats_left c.in-Some.ensures.steps.0.0 c.inbox-inbox.ensures.value).0

pub new-requires-clause-link : goal.new-requires-clause-link
new-requires-clause-link g c =
    first_number peer_of c.loop-seat.number _ _ _ c.in-Some.link c.loop-seat.invariant.numbered c.in-Some.ensures.steps.1.0 (ap length c.in-Some.ensures.steps.1.0) ∙ sym c.inbox-inbox.ensures.peer

pub overflow_add-number : goal.overflow_add-number
overflow_add-number g c =
    let lt = some_left opening_seat c.args.crew.now.inboxes c.loop-seat.number c.in-Some.seat _ _ c.loop-seat.invariant.placing.seats_left c.in-Some.ensures.steps.0.0 in
    omega (arith, c.peers.ensures)

pub loop-seat-init : goal.loop-seat-init
loop-seat-init g c = record {
  can = (tt, tt);
  finite = tt;
  room = search rules;
  count = search rules;
  numbered = search rules;
  placing = search rules;
}

pub loop-seat-preserved : goal.loop-seat-preserved
loop-seat-preserved g c = record {
  can = (tt, tt);
  finite = tt;
  room = omega (arith, c.push_reserved.ensures.capacity, c.loop-seat.invariant.room);
  count = ap length c.push_reserved.ensures.items ∙ length_push c.loop-seat.slots.items c.new.result ∙ ap (λ n. n + 1) c.loop-seat.invariant.count;
  numbered = later_numbers peer_of c.loop-seat.number _ _ _ c.in-Some.link c.loop-seat.invariant.numbered c.in-Some.ensures.steps.1.0 (ap length c.in-Some.ensures.steps.1.0);
  placing = placing_more c.args.crew.now c.loop-seat.number c.inbox-inbox.result.now c.loop-seat.slots.items _ c.in-Some.seat c.in-Some.link _ _ _ _
      c.loop-seat.invariant.placing c.in-Some.ensures.steps.0.0 c.in-Some.ensures.steps.1.0 c.inbox-inbox.ensures.value c.inbox-inbox.ensures.peer
      (c.push_reserved.ensures.items ∙ ap (λ s. c.loop-seat.slots.items ++ s ∷ []) c.new.ensures);
}

pub returns-clause-slots : goal.returns-clause-slots
returns-clause-slots g c =
    let none = none_left (zip_first c.loop-seat.seat-iterator) (zip_second c.loop-seat.seat-iterator) c.in-None.ensures.steps c.loop-seat.invariant.placing.as_many in
    placing_all c.args.crew.now c.loop-seat.number c.loop-seat.slots.items _ _ c.loop-seat.invariant.placing none
