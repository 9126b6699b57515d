use Rattle.std.proofs.Common.{◌≡◌, ◌<◌, length, get_or, set, Some, None, ap, sym, ◌∙◌, arith}
use Rattle.cb_crew.specs.declared.act.Act.TheVariants.{Take}
use Rattle.cb_crew.proofs.SystemLemmas.{crew_at, take_at, reached_step, full_hand, desk_below}
use Rattle.cb_crew.proofs.system.System.take.Goals as goal

pub index_mut-inbox-requires : goal.index_mut-inbox-requires
index_mut-inbox-requires c =
    let a = c.self.inside in
    let k = c.from-handler.result in
    let lt : k < length a.held.items = omega arith in
    let below = desk_below _ _ a.capacity a.inboxes.items a.ring.items a.held.items k c.in-Some.desk c.self.invariant.reached (full_hand a.held.items k c.in-Some.desk c.index.result.now lt c.index.ensures c.in-Some.is) in
    omega arith

pub invariant_of-self-in-Some : goal.invariant_of-self-in-Some
invariant_of-self-in-Some c =
    let a = c.self.inside in
    let k = c.from-handler.result in
    let desk = c.from.result in
    let lt : k < length a.held.items = omega arith in
    let some : get_or a.held.items k None ≡ Some desk = full_hand a.held.items k c.in-Some.desk c.index.result.now lt c.index.ensures c.in-Some.is ∙ ap (λ p. Some p) (sym c.from.ensures) in
    let peer = desk_below _ _ a.capacity a.inboxes.items a.ring.items a.held.items k desk c.self.invariant.reached some in
    let below : desk < length a.inboxes.items = omega arith in
    let step = take_at a.inboxes.items a.ring.items a.held.items k desk c.index_mut-inbox.result.now c.take.new.self below some c.index_mut-inbox.ensures.value c.if-is_empty.ensures.1 c.take.ensures in
    record {
      reached = reached_step _ _ a.capacity (crew_at a.inboxes.items a.ring.items a.held.items) (crew_at (set a.inboxes.items desk c.take.new.self) a.ring.items a.held.items) (Take k) c.self.invariant.reached step;
      room = omega arith;
      some_peer = c.self.invariant.some_peer;
      peers = c.self.invariant.peers;
      some_handler = c.self.invariant.some_handler;
      handlers = c.self.invariant.handlers;
    }

pub returns-else-is_empty-clause-answers : goal.returns-else-is_empty-clause-answers
returns-else-is_empty-clause-answers c =
    let a = c.self.inside in
    let k = c.from-handler.result in
    let desk = c.from.result in
    let lt : k < length a.held.items = omega arith in
    let some : get_or a.held.items k None ≡ Some desk = full_hand a.held.items k c.in-Some.desk c.index.result.now lt c.index.ensures c.in-Some.is ∙ ap (λ p. Some p) (sym c.from.ensures) in
    let peer = desk_below _ _ a.capacity a.inboxes.items a.ring.items a.held.items k desk c.self.invariant.reached some in
    let below : desk < length a.inboxes.items = omega arith in
    let step = take_at a.inboxes.items a.ring.items a.held.items k desk c.index_mut-inbox.result.now c.take.new.self below some c.index_mut-inbox.ensures.value c.if-is_empty.ensures.1 c.take.ensures in
    rw (← c.self.view_is, ← c.from-handler.ensures) step
