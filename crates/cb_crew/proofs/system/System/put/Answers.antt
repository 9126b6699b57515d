use Rattle.std.proofs.Common.{◌<◌, length, refl, arith}
use Rattle.cb_crew.proofs.SystemLemmas.{put_at}
use Rattle.cb_crew.proofs.system.System.put.Goals as goal

pub invariant_of-self-2 : goal.invariant_of-self-2
invariant_of-self-2 c =
    let a = c.self.inside in
    let p = c.from-peer.result in
    let lt : p < length a.inboxes.items = omega arith in
    record {
      reached = put_at _ _ a.capacity a.inboxes.items a.ring.items a.held.items p c.args.mark c.index_mut-inbox.result.now c.put.new.self c.put.result lt c.index_mut-inbox.ensures.value (c.if-not-has_room.ensures.0 refl) (c.if-not-may_follow.ensures.0 refl) c.put.ensures.ok c.put.ensures.err c.self.invariant.reached;
      room = omega arith;
      some_peer = c.self.invariant.some_peer;
      peers = c.self.invariant.peers;
      some_handler = c.self.invariant.some_handler;
      handlers = c.self.invariant.handlers;
    }
