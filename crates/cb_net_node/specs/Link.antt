-- A link: two sessions, and the messages that are on their way from one to the other.
use Rattle.std.specs.Prelude.{◌≡◌, ◌&&◌, not, Bool, true, false, List, [], ◌++◌, map}
use Rattle.std.specs.List.{All}
use Rattle.cb_wire.specs.declared.message.Message.{Message}
use Rattle.cb_hall.specs.Badge.{BadgeState}
use Rattle.cb_hall.specs.Histories.{Reply}
use Rattle.cb_peer_state.specs.Session.{openings}
use Rattle.cb_peer_state.specs.State.{is_closed}
use Rattle.cb_peer_state.specs.declared.event.Event.{Event}
use Rattle.cb_peer_state.specs.declared.event.Event.TheVariants as events
use Rattle.cb_trace.specs.declared.trace.TraceEntry.{TraceEntry}
use Rattle.cb_trace.specs.Fold.{inputs_of, sends}
use Rattle.cb_trace.specs.Trace.{StandsFor}
use Rattle.cb_session.specs.Conversation.{IsAnswered}
use Rattle.cb_net_node.specs.Sides.{other_side}
use Rattle.cb_net_node.specs.Ends.{Begins, Fails, Gives, Hears, Misses, said, with_hall}
use Rattle.cb_net_node.specs.declared.end.End.{End}
use Rattle.cb_net_node.specs.declared.end.Start.{Start}
use Rattle.cb_net_node.specs.declared.ends.Ends.{Ends}
use Rattle.cb_net_node.specs.declared.side.Side.{Side}
use Rattle.cb_net_node.specs.declared.side.Side.TheVariants.{First, Second}

-- Both ends, and whether the link lasts.
pub record LinkView : Type 0 where
  pub ends : Ends
  pub lasts : Bool

abbrev pub end_at : Ends → Side → End
end_at ends First = ends.first
end_at ends Second = ends.second

-- ---- the law of a link

-- While the link lasts, what was given and what is on its way is all that was sent. Once it has
-- ended, what was given is a beginning of that.
abbrev pub AddUp : Bool → List Message → List Message → List Message → Type 0
AddUp true given waiting sent = given ++ waiting ≡ sent
AddUp false given waiting sent = (lost : List Message) × (given ++ lost ≡ sent)

-- No session hears the end of its stream while the link lasts, nor anything behind it.
abbrev pub IsLast : Bool → List Event → Type 0
IsLast true last = last ≡ []
IsLast false last = All (λ event. event ≡ events.ReaderEnd) last

-- What one session sent, what of it is on its way, and the inputs of the other session: these are
-- messages that were sent, each once and in order, and nothing else but the end of the stream.
pub record AreHandedOver (lasts : Bool) (sent waiting : List Message) (inputs : List Event)
    : Type 0 where
  pub given : List Message
  pub last : List Event
  pub inputs_are : inputs ≡ map said given ++ last
  pub ends : IsLast lasts last
  pub add_up : AddUp lasts given waiting sent

-- What holds of every link: there are histories of its two sessions, and each session was given
-- what the fold of the other one sends. While the link lasts, no question is open.
pub record IsLink (link : LinkView) : Type 0 where
  pub first : List TraceEntry
  pub second : List TraceEntry
  pub first_stands : StandsFor link.ends.first.trace first
  pub second_stands : StandsFor link.ends.second.trace second
  pub to_first : AreHandedOver link.lasts (sends link.ends.second.trace.settings second)
      link.ends.first.inbox (inputs_of first)
  pub to_second : AreHandedOver link.lasts (sends link.ends.first.trace.settings first)
      link.ends.second.inbox (inputs_of second)
  pub answered : link.lasts ≡ true
      → IsAnswered link.ends.first.trace × IsAnswered link.ends.second.trace

-- ---- what a call does

-- The link lasts, and the session at this side isn't over.
abbrev pub is_open_at : LinkView → Side → Bool
is_open_at link side =
    link.lasts && not (is_closed (end_at link.ends side).trace.session.state)

-- Nothing but what is on its way to it changed at an end.
abbrev pub IsSameSession : End → End → Type 0
IsSameSession old new = new ≡ record old { inbox = new.inbox }

-- Both sessions were given nothing yet, and the messages that open them are on their way.
pub record AreBegun (first second : Start) (ends : Ends) : Type 0 where
  pub one : Begins first (record ends.first { inbox = [] })
  pub two : Begins second (record ends.second { inbox = [] })
  pub to_first : ends.first.inbox ≡ openings second.settings
  pub to_second : ends.second.inbox ≡ openings first.settings

-- The session at a side was given an event, and all that it sent is on its way to its neighbour.
-- No question is open.
pub record GivesAt {H : Type 0} (told : H → BadgeState → List Reply → H → BadgeState → Type 0)
    (side : Side) (event : Event) (old new : Ends) (hall hall' : H) : Type 0 where
  pub gives : Gives told event (end_at old side) (end_at new side) hall hall'
      (end_at old (other_side side)).inbox (end_at new (other_side side)).inbox
  pub neighbour : IsSameSession (end_at old (other_side side)) (end_at new (other_side side))

-- The session at a side was given the message that arrived, and all that it sent is on its way to
-- its neighbour. No question is open.
pub record HearsAt {H : Type 0} (told : H → BadgeState → List Reply → H → BadgeState → Type 0)
    (side : Side) (old new : Ends) (hall hall' : H) : Type 0 where
  pub hears : Hears told (end_at old side) (end_at new side) hall hall'
      (end_at old (other_side side)).inbox (end_at new (other_side side)).inbox
  pub neighbour : IsSameSession (end_at old (other_side side)) (end_at new (other_side side))

-- The same for want of memory: some of what the session sent may be lost.
pub record FailsAt {H : Type 0} (told : H → BadgeState → List Reply → H → BadgeState → Type 0)
    (side : Side) (event : Event) (old new : Ends) (hall hall' : H) : Type 0 where
  pub fails : Fails told (with_hall (end_at old side) hall) (with_hall (end_at new side) hall')
      event
  pub neighbour : IsSameSession (end_at old (other_side side)) (end_at new (other_side side))

-- And the message that arrived may be lost.
pub record MissesAt {H : Type 0} (told : H → BadgeState → List Reply → H → BadgeState → Type 0)
    (side : Side) (old new : Ends) (hall hall' : H) : Type 0 where
  pub misses : Misses told (end_at old side) (end_at new side) hall hall'
  pub neighbour : IsSameSession (end_at old (other_side side)) (end_at new (other_side side))

-- Both sessions are over, and nothing is on its way.
pub record AreClosed (ends : Ends) : Type 0 where
  pub first : is_closed ends.first.trace.session.state ≡ true
  pub second : is_closed ends.second.trace.session.state ≡ true
  pub to_first : ends.first.inbox ≡ []
  pub to_second : ends.second.inbox ≡ []
