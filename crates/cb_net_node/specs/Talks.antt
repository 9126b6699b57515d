-- What a session was given and sent, and what it asked of the hall, from one moment to a later one.
use Rattle.std.specs.Prelude.{◌≡◌, List, ◌++◌, Option}
use Rattle.cb_wire.specs.declared.message.Message.{Message}
use Rattle.cb_hall.specs.declared.question.Question.{Question}
use Rattle.cb_hall.specs.Badge.{BadgeState}
use Rattle.cb_hall.specs.Histories.{Reply}
use Rattle.cb_peer_state.specs.declared.event.Event.{Event}
use Rattle.cb_trace.specs.declared.trace.TraceEntry.{TraceEntry}
use Rattle.cb_trace.specs.Fold.{beats_of, inputs_of, replies, sends}
use Rattle.cb_trace.specs.Trace.{StandsFor, TraceSteps, TraceView}

-- A session with the hall that it asks, and the badge under which it asks.
pub record Moment (H : Type 0) : Type 0 where
  pub trace : TraceView
  pub hall : H
  pub badge : BadgeState

abbrev pub moment : {H : Type 0} → TraceView → H → BadgeState → Moment H
moment trace hall badge = record { trace = trace; hall = hall; badge = badge }

-- The session's history went on: it was given these inputs and these timer events, in order, and
-- its fold sends these messages to them. The hall granted what the fold asks, and gave its replies.
pub record GoesOn {H : Type 0} (told : H → BadgeState → List Reply → H → BadgeState → Type 0)
    (history : List TraceEntry) (old new : Moment H) (inputs beats : List Event)
    (sent : List Message) : Type 0 where
  pub more : List TraceEntry
  pub later : List TraceEntry
  pub parts : later ≡ history ++ more
  pub stands : StandsFor new.trace later
  pub inputs_are : inputs_of later ≡ inputs_of history ++ inputs
  pub beats_are : beats_of later ≡ beats_of history ++ beats
  pub sends_are : sends old.trace.settings later ≡ sends old.trace.settings history ++ sent
  pub answers : List Reply
  pub replies_are : replies old.trace.settings later
      ≡ replies old.trace.settings history ++ answers
  pub told_are : told old.hall old.badge answers new.hall new.badge

-- Whichever history the trace stood for, it went on so.
pub record Talks {H : Type 0} (told : H → BadgeState → List Reply → H → BadgeState → Type 0)
    (old new : Moment H) (inputs beats : List Event) (sent : List Message) : Type 0 where
  pub settings : new.trace.settings ≡ old.trace.settings
  pub each : (history : List TraceEntry) → StandsFor old.trace history
      → GoesOn told history old new inputs beats sent

-- All that the session sent stands behind what was on its way.
pub record Sends {H : Type 0} (told : H → BadgeState → List Reply → H → BadgeState → Type 0)
    (old new : Moment H) (inputs beats : List Event) (waiting waiting' : List Message)
    : Type 0 where
  pub sent : List Message
  pub behind : waiting' ≡ waiting ++ sent
  pub talks : Talks told old new inputs beats sent

-- The session went on, and some of what it sent may be lost.
pub record Breaks {H : Type 0} (told : H → BadgeState → List Reply → H → BadgeState → Type 0)
    (old new : Moment H) (inputs beats : List Event) : Type 0 where
  pub sent : List Message
  pub talks : Talks told old new inputs beats sent

-- ---- one entry

-- The trace has one more entry, with this event.
pub record Steps (old new : TraceView) (event : Event) : Type 0 where
  pub sent : List Message
  pub asked : Option Question
  pub steps : TraceSteps old new event sent asked

-- And what the session sent stands behind what was on its way.
pub record StepsInto (old new : TraceView) (event : Event) (asked : Option Question)
    (waiting waiting' : List Message) : Type 0 where
  pub sent : List Message
  pub behind : waiting' ≡ waiting ++ sent
  pub steps : TraceSteps old new event sent asked
