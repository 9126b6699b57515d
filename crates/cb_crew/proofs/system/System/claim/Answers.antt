use Rattle.std.proofs.Common.{◌<◌, length, set, Some, arith}
use Rattle.cb_crew.specs.declared.act.Act.TheVariants.{Claim}
use Rattle.cb_crew.proofs.SystemLemmas.{crew_at, claim_step, reached_step, free_hand}
use Rattle.cb_crew.proofs.system.System.claim.Goals as goal

pub invariant_of-self : goal.invariant_of-self
invariant_of-self c =
    let a = c.self.inside in
    let k = c.from-handler.result in
    let lt : k < length a.held.items = omega arith in
    let step = claim_step a.inboxes.items a.ring.items c.pop_front.new.self.items a.held.items k c.in-Some.desk lt (free_hand a.held.items k c.index.result.now lt c.index.ensures c.if-is_some.ensures) c.in-Some.ensures.items in
    record {
      reached = reached_step _ _ a.capacity (crew_at a.inboxes.items a.ring.items a.held.items) (crew_at a.inboxes.items c.pop_front.new.self.items (set a.held.items k (Some c.in-Some.desk))) (Claim k) c.self.invariant.reached step;
      room = omega arith;
      some_peer = c.self.invariant.some_peer;
      peers = c.self.invariant.peers;
      some_handler = c.self.invariant.some_handler;
      handlers = c.self.invariant.handlers;
    }

pub returns-in-Some-clause-answers : goal.returns-in-Some-clause-answers
returns-in-Some-clause-answers c =
    let a = c.self.inside in
    let k = c.from-handler.result in
    let lt : k < length a.held.items = omega arith in
    let step = claim_step a.inboxes.items a.ring.items c.pop_front.new.self.items a.held.items k c.in-Some.desk lt (free_hand a.held.items k c.index.result.now lt c.index.ensures c.if-is_some.ensures) c.in-Some.ensures.items in
    rw (← c.self.view_is, ← c.from-handler.ensures) step
