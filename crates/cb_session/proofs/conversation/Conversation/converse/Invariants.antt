use Rattle.std.proofs.Common.{◌≡◌, true, false, List, []}
use Rattle.cb_peer_state.specs.declared.event.Event.{Event}
use Rattle.cb_peer_state.specs.State.{is_closed}
use Rattle.cb_trace.specs.Kept.{StillKeeps}
use Rattle.cb_session.specs.Conversation.{IsPending, MayAsk, Origin, SameReferences, Sent, WritesOn, at, left_of}
use Rattle.cb_session.proofs.conversation.Conversation.converse.Given as goal

-- what was to be written went out, and nothing is on its way
abbrev pub invariant-loop-next : goal.invariant-loop-next
invariant-loop-next g l = record {
  ends : SameReferences l.fn.self l.self;
  keeps : StillKeeps l.fn.self.trace.now l.self.trace.now;
  heeds : WritesOn l.fn.self.trace.now (g.W.Sink.has_failed l.fn.self.writer.now) → g.W.Sink.heeds_failure l.fn.self.writer.now l.self.writer.now × WritesOn l.self.trace.now (g.W.Sink.has_failed l.self.writer.now);
  stays : is_closed l.fn.self.trace.now.session.state ≡ true → is_closed l.self.trace.now.session.state ≡ true;
  may : MayAsk l.self.trace.now l.next;
  stands : IsPending l.fn.self.trace.now l.fn.question → IsPending l.self.trace.now l.next;
  sent : (from : Origin g.row.H.Denot) (inputs : List Event) →
      Sent g.H.Oracle.told g.H.Oracle.refused from (at g.W.Sink.contents g.W.Sink.has_failed l.fn.self) inputs [] false → Sent g.H.Oracle.told g.H.Oracle.refused from (at g.W.Sink.contents g.W.Sink.has_failed l.self) inputs [] false;
}

-- each answer leaves fewer to be waited for
abbrev pub decreases-loop-next : goal.decreases-loop-next
decreases-loop-next g l = left_of l.self.trace.now
