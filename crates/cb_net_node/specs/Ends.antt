-- One end of a link, and what a call does to it.
use Rattle.std.specs.Prelude.{◌≡◌, ◌⊎◌, true, false, List, [], ◌∷◌}
use Rattle.cb_wire.specs.declared.item.Item.TheVariants.{Good}
use Rattle.cb_wire.specs.declared.message.Message.{Message}
use Rattle.cb_hall.specs.Badge.{BadgeState}
use Rattle.cb_hall.specs.Histories.{Reply}
use Rattle.cb_peer_state.specs.State.{is_closed}
use Rattle.cb_peer_state.specs.declared.event.Event.{Event}
use Rattle.cb_peer_state.specs.declared.event.Event.TheVariants as events
use Rattle.cb_trace.specs.Trace.{Grows, IsAsBefore, Readied, StandsFor, TraceView}
use Rattle.cb_session.specs.Conversation.{IsAnswered, beat_in, input_in}
use Rattle.cb_net_node.specs.Talks.{Breaks, Moment, Sends, moment}
use Rattle.cb_net_node.specs.declared.end.End.{End}
use Rattle.cb_net_node.specs.declared.end.Start.{Start}

-- A session is given a message of its neighbour, which came whole.
abbrev pub said : Message → Event
said message = events.Said (Good message)

-- An end with its hall.
abbrev pub with_hall : {H : Type 0} → End → H → Moment H
with_hall end hall = moment end.trace hall end.badge

-- Its session was given nothing yet, and nothing is on its way to it.
pub record Begins (start : Start) (end : End) : Type 0 where
  pub settings : end.trace.settings ≡ start.settings
  pub stands : StandsFor end.trace []
  pub badge : end.badge ≡ start.badge
  pub inbox : end.inbox ≡ []

-- There was no memory for the event, and the session is over. Or it was given the event, and some
-- of what it sent may be lost.
abbrev pub Fails : {H : Type 0} → (H → BadgeState → List Reply → H → BadgeState → Type 0)
    → Moment H → Moment H → Event → Type 0
Fails told old new event =
    (Breaks told old new [] [] × (is_closed new.trace.session.state ≡ true))
    ⊎ Breaks told old new (input_in event) (beat_in event)

-- The session was given an event, and all that it sent is on its way. No question is open.
pub record Gives {H : Type 0} (told : H → BadgeState → List Reply → H → BadgeState → Type 0)
    (event : Event) (old new : End) (hall hall' : H) (waiting waiting' : List Message)
    : Type 0 where
  pub sends : Sends told (with_hall old hall) (with_hall new hall') (input_in event)
      (beat_in event) waiting waiting'
  pub answered : IsAnswered new.trace
  pub inbox : new.inbox ≡ old.inbox

-- The message that arrived was given to the session, and all that it sent is on its way. No
-- question is open.
pub record Hears {H : Type 0} (told : H → BadgeState → List Reply → H → BadgeState → Type 0)
    (old new : End) (hall hall' : H) (waiting waiting' : List Message) : Type 0 where
  pub message : Message
  pub first : old.inbox ≡ message ∷ new.inbox
  pub sends : Sends told (with_hall old hall) (with_hall new hall') (said message ∷ []) []
      waiting waiting'
  pub answered : IsAnswered new.trace

-- The message that arrived is lost, or it was given to the session and some of what that sent may
-- be lost.
pub record Misses {H : Type 0} (told : H → BadgeState → List Reply → H → BadgeState → Type 0)
    (old new : End) (hall hall' : H) : Type 0 where
  pub message : Message
  pub first : old.inbox ≡ message ∷ new.inbox
  pub breaks : Breaks told (with_hall old hall) (with_hall new hall') [] []
      ⊎ Breaks told (with_hall old hall) (with_hall new hall') (said message ∷ []) []

-- The session heard the end of its stream.
pub record HeardEnd (old new : TraceView) : Type 0 where
  pub between : TraceView
  pub same : IsAsBefore old between
  pub grows : Grows between new (record { event = events.ReaderEnd; starved = false })

-- So did it, unless it was over.
abbrev pub WasClosed : TraceView → TraceView → Type 0
WasClosed old new =
    ((is_closed old.session.state ≡ true) × (new ≡ old))
    ⊎ ((is_closed old.session.state ≡ false) × HeardEnd old new)

-- The same, or there was no memory for it, and the session is over.
abbrev pub Closes : TraceView → TraceView → Type 0
Closes old new = WasClosed old new ⊎ Readied old new false
