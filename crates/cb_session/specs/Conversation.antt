-- A conversation: what came in, what went out, and what was asked and answered, at any moment.
use Rattle.std.specs.Prelude.{◌≡◌, ◌≢◌, ℕ, ◌+◌, ◌-◌, ◌^◌, min, ◌⊎◌, Bool, true, false, List, [], ◌∷◌, ◌++◌, length, Option, None, Some, if◌then◌else◌}
use Rattle.cb_base.specs.declared.fault.Fault.{Fault}
use Rattle.cb_base.specs.declared.fault.Fault.TheVariants.{JournalFull, Memory}
use Rattle.cb_wire.specs.declared.item.Item.{Item}
use Rattle.cb_wire.specs.Stream.{texts}
use Rattle.cb_peer_state.specs.Writing.{Wrote}
use Rattle.cb_hall.specs.Badge.{BadgeState}
use Rattle.cb_hall.specs.Histories.{Reply}
use Rattle.cb_hall.specs.declared.question.Question.{Question}
use Rattle.cb_peer_state.specs.declared.settings.Settings.{Settings}
use Rattle.cb_peer_state.specs.declared.event.Event.{Event}
use Rattle.cb_peer_state.specs.declared.event.Event.TheVariants as events
use Rattle.cb_trace.specs.declared.trace.TraceEntry.{TraceEntry}
use Rattle.cb_peer_state.specs.Questions.{fits, questions_left, pending_question}
use Rattle.cb_peer_state.specs.Event.{ends_at_once, is_beat, is_hall_full, is_input, is_no_memory, is_told, is_write_fault, kind_of, loses}
use Rattle.cb_peer_state.specs.State.{is_closed}
use Rattle.cb_trace.specs.Fold.{beats_of, first_account, has_kind, inputs_of, number_of, replies, sends}
use Rattle.cb_trace.specs.Prompt.{EachPrompt}
use Rattle.cb_trace.specs.Trace.{Grows, LacksBase, StandsFor, TraceView}
use Rattle.cb_session.specs.declared.conversation.Conversation.{Conversation}

-- The references that a conversation lends are the same.
abbrev pub SameReferences : {W H : Type 0} → Conversation W H → Conversation W H → Type 0
SameReferences old new =
    (new.trace.ghost_name ≡ old.trace.ghost_name) × (new.writer.ghost_name ≡ old.writer.ghost_name)
    × (new.hall.ghost_name ≡ old.hall.ghost_name) × (new.badge.ghost_name ≡ old.badge.ghost_name)

-- Where a conversation began: the settings, the hall and the badge, what the sink held, and whether
-- it had failed. And which timer events the session was given since, in order: ticks and probes.
pub record Origin (H : Type 0) : Type 0 where
  pub settings : Settings
  pub hall : H
  pub badge : BadgeState
  pub held : Option (List ℕ)
  pub failed : Bool
  pub beats : List Event

-- A conversation that began here and was given no timer event.
abbrev pub origin_of : {H : Type 0} → Settings → H → BadgeState → Option (List ℕ) → Bool → Origin H
origin_of settings hall badge held failed = record {
  settings = settings;
  hall = hall;
  badge = badge;
  held = held;
  failed = failed;
  beats = [];
}

-- The event as a list of timer events, which is empty if it is none.
abbrev pub beat_in : Event → List Event
beat_in event = if is_beat (kind_of event) then event ∷ [] else []

-- The session was given one more event, which is noted if it is a timer event.
abbrev pub with_event : {H : Type 0} → Origin H → Event → Origin H
with_event from event = record from { beats = from.beats ++ beat_in event }

-- The event as a list of inputs, which is empty if it is none.
abbrev pub input_in : Event → List Event
input_in event = if is_input (kind_of event) then event ∷ [] else []

-- The number after so many more, as a u64 that stops at its maximum.
abbrev pub number_after : ℕ → ℕ → ℕ
number_after number more = min (number + more) (2 ^ 64 - 1)

-- How far a conversation is: the trace, the hall and the badge, what the sink holds, whether it has
-- failed, and the number of bytes written.
pub record Progress (H : Type 0) : Type 0 where
  pub trace : TraceView
  pub hall : H
  pub badge : BadgeState
  pub held : Option (List ℕ)
  pub failed : Bool
  pub written : ℕ

abbrev pub progress : {H : Type 0} → TraceView → H → BadgeState → Option (List ℕ) → Bool → ℕ
    → Progress H
progress trace hall badge held failed written = record {
  trace = trace;
  hall = hall;
  badge = badge;
  held = held;
  failed = failed;
  written = written;
}

-- How far this conversation is, by what its sink holds and whether it has failed.
abbrev pub at : {W H : Type 0} → (W → Option (List ℕ)) → (W → Bool) → Conversation W H → Progress H
at contents has_failed talk =
    progress talk.trace.now talk.hall.now talk.badge.now (contents talk.writer.now)
    (has_failed talk.writer.now) talk.written

-- Before its last entry, `NoMemory`, the trace had a checkpoint due that takes memory.
pub record HadNoBase (trace : TraceView) : Type 0 where
  pub before : TraceView
  pub lacks : LacksBase before trace

-- A trace has no room for another entry, or had no memory for a checkpoint.
abbrev pub HasNoPlace : TraceView → Type 0
HasNoPlace trace = (trace.room ≡ 0) ⊎ HadNoBase trace

-- At its last entry, `NoMemory`, a question to the hall was open.
pub record WasAsking (trace : TraceView) : Type 0 where
  pub before : TraceView
  pub question : Question
  pub asked : pending_question before.session ≡ Some question
  pub entry : TraceEntry
  pub ran_out : is_no_memory (kind_of entry.event) ≡ true
  pub grows : Grows before trace entry

-- A conversation ran out of memory: its trace has no room for another entry or had no memory for a
-- checkpoint, the hall refused the open question with `Memory`, or messages were left unwritten.
abbrev pub Lacked : {H : Type 0} → (H → BadgeState → Fault → Type 0) → Progress H → List ℕ → Type 0
Lacked refused now missing =
    HasNoPlace now.trace
    ⊎ ((WasAsking now.trace × refused now.hall now.badge Memory) ⊎ (missing ≢ []))

-- The account of a conversation. These inputs were given. These bytes of what was sent are missing.
-- `lost` says whether an event came that may leave bytes missing. `unkept` says whether something
-- from the peer may have been dropped because memory ran out. `told` says what the hall answered,
-- and `refused` what it refused.
pub record Accounts {H : Type 0} (told : H → BadgeState → List Reply → H → BadgeState → Type 0)
    (refused : H → BadgeState → Fault → Type 0) (from : Origin H) (now : Progress H)
    (inputs : List Event) (missing : List ℕ) (lost unkept : Bool) : Type 0 where
  pub settings : now.trace.settings ≡ from.settings
  -- All entries since the beginning.
  pub history : List TraceEntry
  pub stands : StandsFor now.trace history
  -- The bytes written are a prefix of the text of all messages that the fold sends.
  pub wrote : Wrote from.held now.held (texts (sends from.settings history)) now.written missing
  pub inputs_are : inputs_of history ≡ inputs
  pub prompt : EachPrompt (first_account from.settings) history
  -- The hall granted the questions of the fold and gave its replies.
  pub replies_are : told from.hall from.badge (replies from.settings history) now.hall now.badge
  -- Each answer that was given to the session is the reply to a question.
  pub each_told : number_of is_told history ≡ length (replies from.settings history)
  -- Each cause is true.
  pub write_fault : has_kind is_write_fault history ≡ true → now.failed ≡ true
  pub hall_full : has_kind is_hall_full history ≡ true → refused now.hall now.badge JournalFull
  pub no_memory : has_kind is_no_memory history ≡ true
      → Lacked refused now missing ⊎ (unkept ≡ true)
  pub beats_are : beats_of history ≡ from.beats
  pub losses : has_kind loses history ≡ lost

-- The account while messages are still to be written.
pub record Underway {H : Type 0} (told : H → BadgeState → List Reply → H → BadgeState → Type 0)
    (refused : H → BadgeState → Fault → Type 0) (from : Origin H) (now : Progress H)
    (inputs : List Event) (missing : List ℕ) (unkept : Bool) : Type 0 where
  pub lost : Bool
  pub accounts : Accounts told refused from now inputs missing lost unkept

-- The account with only these bytes (`later`) still to be written: everything else that was sent
-- was written, unless a write failed or memory ran out.
pub record Sent {H : Type 0} (told : H → BadgeState → List Reply → H → BadgeState → Type 0)
    (refused : H → BadgeState → Fault → Type 0) (from : Origin H) (now : Progress H)
    (inputs : List Event) (later : List ℕ) (unkept : Bool) : Type 0 where
  pub missing : List ℕ
  pub lost : Bool
  pub accounts : Accounts told refused from now inputs missing lost unkept
  pub whole : lost ≡ false → missing ≡ later
  -- A failed write was logged, and ended the session.
  pub told_loss : now.failed ≡ true → (from.failed ≡ true) ⊎ (lost ≡ true)

-- No question is open, unless the session is over.
abbrev pub IsAnswered : TraceView → Type 0
IsAnswered trace = is_closed trace.session.state ≡ false → trace.session.pending ≡ None

-- The account with no message still to be written and no question open.
pub record Settled {H : Type 0} (told : H → BadgeState → List Reply → H → BadgeState → Type 0)
    (refused : H → BadgeState → Fault → Type 0) (from : Origin H) (now : Progress H)
    (inputs : List Event) (unkept : Bool) : Type 0 where
  pub sent : Sent told refused from now inputs [] unkept
  pub answered : IsAnswered now.trace

-- The account between two inputs: no question is open, and only these bytes (`held_back`) are still
-- to be written. While there are any, the hall has answered nothing.
pub record Stands {H : Type 0} (told : H → BadgeState → List Reply → H → BadgeState → Type 0)
    (refused : H → BadgeState → Fault → Type 0) (from : Origin H) (now : Progress H)
    (inputs : List Event) (held_back : List ℕ) (unkept : Bool) : Type 0 where
  pub sent : Sent told refused from now inputs held_back unkept
  pub unasked : held_back ≢ [] → has_kind is_told sent.accounts.history ≡ false
  pub answered : IsAnswered now.trace

-- An input was given. Or there was no room for it, and the session ended.
pub record Gave {H : Type 0} (told : H → BadgeState → List Reply → H → BadgeState → Type 0)
    (refused : H → BadgeState → Fault → Type 0) (from : Origin H) (now : Progress H)
    (inputs : List Event) (event : Event) : Type 0 where
  pub given : List Event
  pub settled : Settled told refused from now given false
  pub which : (given ≡ inputs ++ event ∷ [])
      ⊎ ((given ≡ inputs) × (is_closed now.trace.session.state ≡ true))

-- An item couldn't be kept, and the session ended.
pub record Unkept {H : Type 0} (told : H → BadgeState → List Reply → H → BadgeState → Type 0)
    (refused : H → BadgeState → Fault → Type 0) (from : Origin H) (now : Progress H)
    (inputs : List Event) : Type 0 where
  pub settled : Settled told refused from now inputs true
  pub closed : is_closed now.trace.session.state ≡ true

-- An item was given, or it couldn't be kept.
abbrev pub GaveItem : {H : Type 0} → (H → BadgeState → List Reply → H → BadgeState → Type 0)
    → (H → BadgeState → Fault → Type 0) → Origin H → Progress H → List Event → Item → Type 0
GaveItem told refused from now inputs item =
    Gave told refused from now inputs (events.Said item) ⊎ Unkept told refused from now inputs

-- While the session isn't over, no write has failed.
abbrev pub WritesOn : TraceView → Bool → Type 0
WritesOn trace failed = is_closed trace.session.state ≡ false → failed ≡ false

-- The number of answers needed until no question is open.
abbrev pub left_of : TraceView → ℕ
left_of trace = if is_closed trace.session.state then 0 else questions_left trace.session.pending

-- The open question, while the session isn't over.
abbrev pub open_question : TraceView → Option Question
open_question trace = if is_closed trace.session.state then None else pending_question trace.session

-- While the session isn't over, this is the open question, or there is none to ask.
abbrev pub MayAsk : TraceView → Option Question → Type 0
MayAsk trace next =
    (question : Question) → next ≡ Some question → is_closed trace.session.state ≡ false
    → pending_question trace.session ≡ Some question

-- While the session isn't over, this is its open question, or it has none.
abbrev pub IsPending : TraceView → Option Question → Type 0
IsPending trace next = is_closed trace.session.state ≡ false → next ≡ pending_question trace.session

-- An event that ends the session at once and may leave messages unwritten: no memory, or a failed
-- write.
pub record IsLoss (event : Event) : Type 0 where
  pub loses_messages : loses (kind_of event) ≡ true
  pub ends : ends_at_once event ≡ true

-- The outcome of a question to the hall, as an event. An answer fits the question.
abbrev pub AnswerOf : {H : Type 0} → (H → BadgeState → List Reply → H → BadgeState → Type 0)
    → (H → BadgeState → Fault → Type 0) → H → BadgeState → H → BadgeState → Question → Event
    → Type 0
AnswerOf told refused old had new has question (events.Told answer) =
    told old had (record { question = question; answer = answer } ∷ []) new has
    × (fits question answer ≡ true)
AnswerOf told refused old had new has question events.HallFull =
    told old had [] new has × refused new has JournalFull
AnswerOf told refused old had new has question events.NoMemory =
    told old had [] new has × refused new has Memory
AnswerOf told refused old had new has question other = ⊥
