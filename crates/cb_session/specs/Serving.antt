-- Serving one connection: what was read, and what followed from it.
use Rattle.std.specs.Prelude.{◌≡◌, ◌≢◌, ◌⊎◌, ℕ, ◌≤◌, ◌^◌, Bool, true, false, List, [], ◌∷◌, ◌++◌, length, map, Option, Some, None}
use Rattle.std.specs.List.{list_any}
use Rattle.std.specs.Io.KnownBytes.{Consumes, IsAtEnd}
use Rattle.cb_base.specs.declared.fault.Fault.{Fault}
use Rattle.cb_wire.specs.declared.item.Item.{Item}
use Rattle.cb_wire.specs.Stream.{Assembled, Stream}
use Rattle.cb_hall.specs.Badge.{BadgeState}
use Rattle.cb_hall.specs.Histories.{Reply}
use Rattle.cb_peer_state.specs.declared.settings.Settings.{Settings}
use Rattle.cb_peer_state.specs.declared.state.State.TheVariants.{Closed}
use Rattle.cb_peer_state.specs.declared.state.CloseReason.TheVariants.{Bye}
use Rattle.cb_peer_state.specs.declared.event.Event.{Event}
use Rattle.cb_peer_state.specs.declared.event.Event.TheVariants as events
use Rattle.cb_trace.specs.declared.trace.TraceEntry.{TraceEntry}
use Rattle.cb_peer_state.specs.Event.{is_reader_end}
use Rattle.cb_peer_state.specs.State.{is_closed}
use Rattle.cb_trace.specs.Fold.{EachOpen, first_account, inputs_of, session_of}
use Rattle.cb_trace.specs.Prompt.{IsPrompt}
use Rattle.cb_base.specs.declared.read_end.ReadEnd.{ReadEnd}
use Rattle.cb_base.specs.declared.read_end.ReadEnd.TheVariants as ends
use Rattle.cb_session.specs.Conversation.{Origin, Progress, SameReferences, Settled, WritesOn, at}
use Rattle.cb_session.specs.declared.conversation.Conversation.{Conversation}

-- ---- what is to be processed

-- The items of a stream, and its fault if it has one, as events.
abbrev pub said : List Item → List Event
said items = map (λ item. events.Said item) items

abbrev pub broken : Option Fault → List Event
broken None = []
broken (Some why) = events.Broken why ∷ []

-- The end of the stream, if reading ended by itself.
abbrev pub end_mark : ReadEnd → List Event
end_mark ends.Eof = events.ReaderEnd ∷ []
end_mark ends.Fault = events.ReaderEnd ∷ []
end_mark ends.Turns = events.ReaderEnd ∷ []
end_mark ends.Stopped = []

-- All events to be processed.
abbrev pub queue : List Item → Option Fault → ReadEnd → List Event
queue items fault end = said items ++ (broken fault ++ end_mark end)

-- What was processed is a prefix of what was to be processed: each once and in order, and nothing
-- after the session's end. If the peer's end closed the session, everything was processed.
pub record IsInOrder (queued : List Event) (settings : Settings) (history : List TraceEntry)
    : Type 0 where
  pub later : List Event
  pub beginning : inputs_of history ++ later ≡ queued
  pub none_after : EachOpen (first_account settings) history
  pub all_at_bye : (session_of settings history).state ≡ Closed Bye → inputs_of history ≡ queued

-- Whether the end of the peer's stream was given.
abbrev pub has_end : List TraceEntry → Bool
has_end history = list_any (λ entry. is_reader_end entry.event) history

-- ---- items and pieces

-- The first of these items were given, and all of them if the session isn't over.
pub record Took {H : Type 0} (told : H → BadgeState → List Reply → H → BadgeState → Type 0)
    (refused : H → BadgeState → Fault → Type 0) (from : Origin H) (now : Progress H)
    (inputs : List Event) (items : List Item) : Type 0 where
  pub front : List Item
  pub rest : List Item
  pub parts : items ≡ front ++ rest
  pub unkept : Bool
  pub settled : Settled told refused from now (inputs ++ said front) unkept
  -- What couldn't be kept is an item that wasn't given.
  pub short : unkept ≡ true → rest ≢ []
  pub all : is_closed now.trace.session.state ≡ false → rest ≡ []

-- Nothing is left to be given.
pub record IsCaughtUp (rest : List ℕ) (fault : Option Fault) (later : List Event)
    (assembled : Assembled) : Type 0 where
  pub rest_is : rest ≡ assembled.rest
  pub fault_is : assembled.fault ≡ None
  pub no_fault : fault ≡ None
  pub none_later : later ≡ []

-- More was read than was given: an item, a fault of the stream, or bytes after them.
abbrev pub IsShort : List Event → List Item → List ℕ → Option Fault → Type 0
IsShort inputs items rest fault = (inputs ≢ said items ++ broken fault) ⊎ (rest ≢ [])

-- What a connection has heard of these bytes. The inputs given are a prefix of what the bytes
-- spell. While the session isn't over, they are all of it, and the assembler keeps the remaining
-- bytes.
pub record Pieced {H : Type 0} (told : H → BadgeState → List Reply → H → BadgeState → Type 0)
    (refused : H → BadgeState → Fault → Type 0) (from : Origin H) (now : Progress H)
    (bytes : List ℕ) (assembled : Assembled) : Type 0 where
  pub items : List Item
  pub rest : List ℕ
  pub fault : Option Fault
  pub stream : Stream bytes items rest fault
  pub inputs : List Event
  pub later : List Event
  pub parts : inputs ++ later ≡ said items ++ broken fault
  pub unkept : Bool
  pub settled : Settled told refused from now inputs unkept
  pub short : unkept ≡ true → IsShort inputs items rest fault
  pub going : is_closed now.trace.session.state ≡ false → IsCaughtUp rest fault later assembled

-- A conversation has heard of these bytes since it was `from`, whatever was settled until then.
-- Once a write has failed, there was no other write.
pub record HasHeard {W H : Type 0} (contents : W → Option (List ℕ)) (has_failed : W → Bool)
    (heeds_failure : W → W → Type 0) (told : H → BadgeState → List Reply → H → BadgeState → Type 0)
    (refused : H → BadgeState → Fault → Type 0) (from now : Conversation W H) (bytes : List ℕ)
    (assembled : Assembled) : Type 0 where
  pub ends : SameReferences from now
  pub heeds : WritesOn from.trace.now (has_failed from.writer.now)
      → heeds_failure from.writer.now now.writer.now
      × WritesOn now.trace.now (has_failed now.writer.now)
  pub pieced : (origin : Origin H)
      → Settled told refused origin (at contents has_failed from) [] false
      → Pieced told refused origin (at contents has_failed now) bytes assembled

-- The reason why reading ended is true.
abbrev pub EndsSo : ReadEnd → Option (List ℕ) → Bool → List ℕ → Type 0
EndsSo ends.Eof remaining failed read = IsAtEnd remaining
EndsSo ends.Fault remaining failed read = failed ≡ true
EndsSo ends.Turns remaining failed read = 2 ^ 40 ≤ length read
EndsSo ends.Stopped remaining failed read = Unit {0}

-- The result of serving a connection: from its source before (`input`) to its source after
-- (`remaining`).
pub record Serves {H : Type 0} (told : H → BadgeState → List Reply → H → BadgeState → Type 0)
    (refused : H → BadgeState → Fault → Type 0) (from : Origin H)
    (input remaining : Option (List ℕ)) (read_failed : Bool) (now : Progress H) (end : ReadEnd)
    : Type 0 where
  -- The bytes read. If the source says which bytes it gives, it gave these.
  pub read : List ℕ
  pub consumed : Consumes input remaining read
  -- The items that they spell.
  pub items : List Item
  pub rest : List ℕ
  pub fault : Option Fault
  pub stream : Stream read items rest fault
  -- What was written, asked and answered.
  pub inputs : List Event
  pub unkept : Bool
  pub settled : Settled told refused from now inputs unkept
  -- What couldn't be kept, because memory ran out, was read and not given.
  pub short : unkept ≡ true → IsShort inputs items rest fault
  -- The items were processed in order, each once, and none after the session's end.
  pub in_order : IsInOrder (queue items fault end) from.settings settled.sent.accounts.history
  -- Each had its answers before the next came.
  pub prompt : IsPrompt from.settings settled.sent.accounts.history
  -- Why reading ended. If it was stopped, the session was over by itself.
  pub cause : EndsSo end remaining read_failed read
  pub stopped : end ≡ ends.Stopped → has_end settled.sent.accounts.history ≡ false
  pub closed : is_closed now.trace.session.state ≡ true
