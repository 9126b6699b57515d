-- A link of a session with a neighbour that isn't one.
use Rattle.std.specs.Prelude.{◌≡◌, ◌&&◌, not, Bool, true, List}
use Rattle.cb_wire.specs.declared.message.Message.{Message}
use Rattle.cb_peer_state.specs.State.{is_closed}
use Rattle.cb_trace.specs.declared.trace.TraceEntry.{TraceEntry}
use Rattle.cb_trace.specs.Fold.{sends}
use Rattle.cb_trace.specs.Trace.{StandsFor}
use Rattle.cb_session.specs.Conversation.{IsAnswered}
use Rattle.cb_net_node.specs.Link.{AddUp}
use Rattle.cb_net_node.specs.declared.end.End.{End}

-- The node's end, what its session sent that the neighbour didn't take yet, and whether the link
-- lasts.
pub record LooseView : Type 0 where
  pub end : End
  pub sent : List Message
  pub lasts : Bool

-- The link lasts, and the session isn't over.
abbrev pub is_loose_open : LooseView → Bool
is_loose_open link = link.lasts && not (is_closed link.end.trace.session.state)

-- What holds of every such link: there is a history of the session, and the neighbour took
-- (`taken`) what its fold sends. While the link lasts, no question is open.
pub record IsLooseLink (link : LooseView) : Type 0 where
  pub history : List TraceEntry
  pub stands : StandsFor link.end.trace history
  pub taken : List Message
  pub add_up : AddUp link.lasts taken link.sent (sends link.end.trace.settings history)
  pub answered : link.lasts ≡ true → IsAnswered link.end.trace
