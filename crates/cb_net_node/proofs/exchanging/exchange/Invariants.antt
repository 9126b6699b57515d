use Rattle.cb_session.specs.Conversation.{IsPending, beat_in, input_in, left_of}
use Rattle.cb_net_node.specs.Talks.{Sends, moment}
use Rattle.cb_net_node.proofs.exchanging.exchange.Given as goal

abbrev pub invariant-loop-next : goal.invariant-loop-next
invariant-loop-next g l = record {
  pending : IsPending l.trace l.next;
  sends : Sends g.H.Oracle.told (moment l.fn.trace l.fn.hall l.fn.badge) (moment l.trace l.hall l.badge) (input_in l.fn.event) (beat_in l.fn.event) l.fn.out l.out;
}

-- each answer leaves fewer to be waited for
abbrev pub decreases-loop-next : goal.decreases-loop-next
decreases-loop-next g l = left_of l.trace
