use Rattle.std.proofs.Common.{◌<◌, [], ◌∷◌, ◌++◌, length, set, None, arith}
use Rattle.cb_crew.specs.declared.act.Act.TheVariants.{Give}
use Rattle.cb_crew.proofs.SystemLemmas.{crew_at, give_step, reached_step, full_hand, ring_room}
use Rattle.cb_crew.proofs.system.System.give.Goals as goal

pub push_back_reserved-requires : goal.push_back_reserved-requires
push_back_reserved-requires c =
    let a = c.self.inside in
    let k = c.from-handler.result in
    let lt : k < length a.held.items = omega arith in
    let room = ring_room _ _ a.capacity a.inboxes.items a.ring.items a.held.items k c.in-Some.desk c.self.invariant.reached (full_hand a.held.items k c.in-Some.desk c.index.result.now lt c.index.ensures c.in-Some.is) in
    omega arith

pub invariant_of-self : goal.invariant_of-self
invariant_of-self c =
    let a = c.self.inside in
    let k = c.from-handler.result in
    let lt : k < length a.held.items = omega arith in
    let step = give_step a.inboxes.items a.ring.items a.held.items k c.in-Some.desk (full_hand a.held.items k c.in-Some.desk c.index.result.now lt c.index.ensures c.in-Some.is) in
    record {
      reached = rw c.push_back_reserved.ensures.items
          (reached_step _ _ a.capacity (crew_at a.inboxes.items a.ring.items a.held.items) (crew_at a.inboxes.items (a.ring.items ++ c.in-Some.desk ∷ []) (set a.held.items k None)) (Give k) c.self.invariant.reached step);
      room = omega arith;
      some_peer = c.self.invariant.some_peer;
      peers = c.self.invariant.peers;
      some_handler = c.self.invariant.some_handler;
      handlers = c.self.invariant.handlers;
    }

pub returns-in-Some-clause-answers : goal.returns-in-Some-clause-answers
returns-in-Some-clause-answers c =
    let a = c.self.inside in
    let k = c.from-handler.result in
    let lt : k < length a.held.items = omega arith in
    let step = give_step a.inboxes.items a.ring.items a.held.items k c.in-Some.desk (full_hand a.held.items k c.in-Some.desk c.index.result.now lt c.index.ensures c.in-Some.is) in
    rw (c.push_back_reserved.ensures.items, ← c.self.view_is, ← c.from-handler.ensures) step
