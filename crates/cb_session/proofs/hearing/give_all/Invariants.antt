use Rattle.std.proofs.Common.{◌≡◌, false, List, ◌++◌}
use Rattle.std.specs.Vec.Iter.{into_iter_items}
use Rattle.cb_wire.specs.declared.item.Item.{Item}
use Rattle.cb_peer_state.specs.declared.event.Event.{Event}
use Rattle.cb_session.specs.Conversation.{Origin, SameReferences, Settled, WritesOn, at}
use Rattle.cb_session.specs.Serving.{Took}
use Rattle.cb_session.proofs.hearing.give_all.Given as goal

-- what isn't waiting has been taken
abbrev pub invariant-loop-item : goal.invariant-loop-item
invariant-loop-item g l = record {
  ends : SameReferences l.fn.conversation l.conversation;
  heeds : WritesOn l.fn.conversation.trace.now (g.W.Sink.has_failed l.fn.conversation.writer.now) → g.W.Sink.heeds_failure l.fn.conversation.writer.now l.conversation.writer.now × WritesOn l.conversation.trace.now (g.W.Sink.has_failed l.conversation.writer.now);
  taken : List Item;
  parts : l.fn.items.items ≡ taken ++ into_iter_items l.item-iterator;
  took : (from : Origin g.row.H.Denot) (inputs : List Event) →
      Settled g.H.Oracle.told g.H.Oracle.refused from (at g.W.Sink.contents g.W.Sink.has_failed l.fn.conversation) inputs false → Took g.H.Oracle.told g.H.Oracle.refused from (at g.W.Sink.contents g.W.Sink.has_failed l.conversation) inputs taken;
}
