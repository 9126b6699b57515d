-- A connection's work: what it was given of its connection, what its session made of that, and what
-- it wrote and asked.
use Rattle.std.specs.Prelude.{◌≡◌, ℕ, ◌+◌, ◌*◌, ◌^◌, ◌%◌, ◌≤◌, Bool, true, false, List, [], ◌∷◌, ◌++◌, length, Option, None, Some}
use Rattle.cb_base.specs.declared.fault.Fault.{Fault}
use Rattle.cb_state.specs.declared.connection.Connection.{Connection}
use Rattle.cb_hall.specs.Badge.{BadgeState, fresh_badge}
use Rattle.cb_hall.specs.Histories.{Reply}
use Rattle.cb_wire.specs.declared.message.Message.{Message}
use Rattle.cb_wire.specs.Stream.{texts}
use Rattle.cb_peer_state.specs.declared.settings.Settings.{Settings}
use Rattle.cb_peer_state.specs.declared.event.Event.{Event}
use Rattle.cb_peer_state.specs.declared.event.Event.TheVariants as events
use Rattle.cb_peer_state.specs.Session.{openings}
use Rattle.cb_peer_state.specs.State.{is_closed}
use Rattle.cb_trace.specs.Trace.{TraceView}
use Rattle.cb_session.specs.Conversation.{Origin, Progress, Stands, beat_in, progress}
use Rattle.cb_crew.specs.declared.work.Given.{Given}
use Rattle.cb_crew.specs.declared.work.Given.TheVariants as given
use Rattle.cb_session.specs.declared.input.Input.{Input}
use Rattle.cb_session.specs.declared.input.Input.TheVariants as inputs
use Rattle.cb_work.specs.declared.flags.Beats.{Beats}
use Rattle.cb_work.specs.Flags.{due_in}

-- A work: the trace of its session, the badge under which it asks, the slot of its sink and the
-- sink, the hall, the flags, the number of bytes written, and the messages that are held back until
-- the connection is made.
pub record WorkState (S H F : Type 0) : Type 0 where
  pub trace : TraceView
  pub badge : BadgeState
  pub slot : ℕ
  pub sink : S
  pub hall : H
  pub flags : F
  pub written : ℕ
  pub unsent : List Message

abbrev pub work_state : {S H F : Type 0} → TraceView → BadgeState → ℕ → S → H → F → ℕ → List Message
    → WorkState S H F
work_state trace badge slot sink hall flags written unsent = record {
  trace = trace;
  badge = badge;
  slot = slot;
  sink = sink;
  hall = hall;
  flags = flags;
  written = written;
  unsent = unsent;
}

-- The work's session is over.
abbrev pub is_over : {S H F : Type 0} → WorkState S H F → Bool
is_over work = is_closed work.trace.session.state

-- A connection as a number. Connections of generations below 2^48 have different ones.
abbrev pub label_of : Connection → ℕ
label_of connection = (connection.generation * 65536 + connection.peer) % 2 ^ 64

-- The work's session goes on, and its trace has room for the next event.
abbrev pub IsPrimed : {S H F : Type 0} → WorkState S H F → Type 0
IsPrimed work = (is_over work ≡ false) × (2 ≤ work.trace.room)

-- ---- what a work was given

-- Memory ran out for what the peer sent: one of the items says so.
abbrev pub was_starved : List (Given Input) → Bool
was_starved [] = false
was_starved (given.Item (inputs.Said item) ∷ items) = was_starved items
was_starved (given.Item (inputs.Broken fault) ∷ items) = was_starved items
was_starved (given.Item inputs.NoMemory ∷ items) = true
was_starved (given.End ∷ items) = was_starved items

-- What the items are to a session, up to the first that says that memory ran out.
abbrev pub events_of : List (Given Input) → List Event
events_of [] = []
events_of (given.Item (inputs.Said item) ∷ items) = events.Said item ∷ events_of items
events_of (given.Item (inputs.Broken fault) ∷ items) = events.Broken fault ∷ events_of items
events_of (given.Item inputs.NoMemory ∷ items) = []
events_of (given.End ∷ items) = events.ReaderEnd ∷ events_of items

-- ---- the account of a work

-- The sink holds no byte, if it tells what it holds.
abbrev pub HoldsNothing : Option (List ℕ) → Type 0
HoldsNothing None = Unit {0}
HoldsNothing (Some bytes) = bytes ≡ []

-- Where a work began: with its own settings, this hall, the badge of its connection under which
-- nothing was asked, and a sink that held this and hadn't failed. Since then its session was given
-- these timer events.
abbrev pub beginning : {S H F : Type 0} → WorkState S H F → H → Option (List ℕ) → List Event
    → Origin H
beginning work hall held beats = record {
  settings = work.trace.settings;
  hall = hall;
  badge = fresh_badge work.badge.connection;
  held = held;
  failed = false;
  beats = beats;
}

-- How far a work is.
abbrev pub reached : {S H F : Type 0} → (S → Option (List ℕ)) → (S → Bool) → WorkState S H F
    → Progress H
reached contents has_failed work =
    progress work.trace work.hall work.badge (contents work.sink) (has_failed work.sink)
    work.written

-- The work served exactly these items, and its session was given exactly these ticks and probes.
-- Its session is the fold of what it was given; each item had its answers before the next came, and
-- none was left waiting; what was written is a prefix of what the session sends, which lacks only
-- what is held back (`Stands`). If memory ran out for what the peer sent, the session is over.
-- Until the first tick, probe or item, all that the session opens with is held back.
pub record Serves {S H F : Type 0} (told : H → BadgeState → List Reply → H → BadgeState → Type 0)
    (refused : H → BadgeState → Fault → Type 0) (contents : S → Option (List ℕ))
    (has_failed : S → Bool) (work : WorkState S H F) (items : List (Given Input))
    (beats : List Event) : Type 0 where
  pub hall : H
  pub sink : S  -- the sink as it was in the beginning
  pub empty : HoldsNothing (contents sink)
  pub unfailed : has_failed sink ≡ false
  pub stands : Stands told refused (beginning work hall (contents sink) beats)
      (reached contents has_failed work) (events_of items) (texts work.unsent) (was_starved items)
  pub starved : was_starved items ≡ true → is_over work ≡ true
  pub waits : items ≡ [] → beats ≡ [] → work.unsent ≡ openings work.trace.settings

-- The work was given exactly these items.
abbrev pub WasGiven : {S H F : Type 0} → (H → BadgeState → List Reply → H → BadgeState → Type 0)
    → (H → BadgeState → Fault → Type 0) → (S → Option (List ℕ)) → (S → Bool) → WorkState S H F
    → List (Given Input) → Type 0
WasGiven told refused contents has_failed work items =
    (beats : List Event) × Serves told refused contents has_failed work items beats

-- A tick was given where a look found the tick flag set, and a probe where it found the probe flag
-- set, in order. If the session is over, those of the last look may be missing: there was no place
-- for them.
pub record EachBeat (beats : List Event) (answers : List Beats) (closed : Bool) : Type 0 where
  pub missing : List Event
  pub parts : due_in answers ≡ beats ++ missing
  pub few : length missing ≤ 2
  pub all : closed ≡ false → missing ≡ []

-- The work was ticked as often as the list is long: it looked at its flags so often. Its session
-- was given a tick each time the tick flag was set, and a probe each time the probe flag was.
pub record WasTicked {S H F : Type 0} (told : H → BadgeState → List Reply → H → BadgeState → Type 0)
    (refused : H → BadgeState → Fault → Type 0) (contents : S → Option (List ℕ))
    (has_failed : S → Bool) (looks : F → List Beats → Type 0) (work : WorkState S H F) (at : List ℕ)
    : Type 0 where
  pub answers : List Beats
  pub looked : looks work.flags answers
  pub often : length answers ≡ length at
  pub items : List (Given Input)
  pub beats : List Event
  pub serves : Serves told refused contents has_failed work items beats
  pub each : EachBeat beats answers (is_over work)

-- What every work keeps. Its sink is its peer's slot's. If its session is over, the stop flag is
-- set. It has an account of all that it was given.
pub record IsPeerWork {S H F : Type 0}
    (told : H → BadgeState → List Reply → H → BadgeState → Type 0)
    (refused : H → BadgeState → Fault → Type 0) (contents : S → Option (List ℕ))
    (has_failed : S → Bool) (is_stopped : F → Bool) (work : WorkState S H F) : Type 0 where
  pub slot : work.slot ≡ work.badge.connection.peer
  pub stopped : is_over work ≡ true → is_stopped work.flags ≡ true
  pub items : List (Given Input)
  pub beats : List Event
  pub serves : Serves told refused contents has_failed work items beats

-- ---- one step

-- The work serves the same connection into the same slot, and didn't look at its flags.
pub record IsSamePeer {S H F : Type 0} (looks : F → List Beats → Type 0) (old new : WorkState S H F)
    : Type 0 where
  pub connection : new.badge.connection ≡ old.badge.connection
  pub slot : new.slot ≡ old.slot
  pub looked : (answers : List Beats) → looks old.flags answers → looks new.flags answers

-- The settings are the same but for the time.
abbrev pub IsAtTime : Settings → Settings → Type 0
IsAtTime old new = new ≡ record old { time = new.time }

-- The items after an event from the peer was given.
abbrev pub items_after : List (Given Input) → Event → List (Given Input)
items_after items (events.Said item) = items ++ given.Item (inputs.Said item) ∷ []
items_after items (events.Broken fault) = items ++ given.Item (inputs.Broken fault) ∷ []
items_after items events.ReaderEnd = items ++ given.End ∷ []
items_after items other = items

-- Whatever the work served, it served that and this event.
abbrev pub ServesNext : {S H F : Type 0} → (H → BadgeState → List Reply → H → BadgeState → Type 0)
    → (H → BadgeState → Fault → Type 0) → (S → Option (List ℕ)) → (S → Bool) → WorkState S H F
    → Event → WorkState S H F → Type 0
ServesNext told refused contents has_failed old event new =
    (items : List (Given Input)) (beats : List Event)
    → Serves told refused contents has_failed old items beats
    → Serves told refused contents has_failed new (items_after items event)
    (beats ++ beat_in event)

-- Whatever the work served, it is all that it served still.
abbrev pub ServesOn : {S H F : Type 0} → (H → BadgeState → List Reply → H → BadgeState → Type 0)
    → (H → BadgeState → Fault → Type 0) → (S → Option (List ℕ)) → (S → Bool) → WorkState S H F
    → WorkState S H F → Type 0
ServesOn told refused contents has_failed old new =
    (items : List (Given Input)) (beats : List Event)
    → Serves told refused contents has_failed old items beats
    → Serves told refused contents has_failed new items beats

-- Of these timer events the work's session was given the first, and nothing else. Those that are
-- missing had no place, and the session is over; a session that was over was given none.
pub record GaveBeats {S H F : Type 0}
    (told : H → BadgeState → List Reply → H → BadgeState → Type 0)
    (refused : H → BadgeState → Fault → Type 0) (contents : S → Option (List ℕ))
    (has_failed : S → Bool) (old : WorkState S H F) (due : List Event) (new : WorkState S H F)
    : Type 0 where
  pub given : List Event
  pub missing : List Event
  pub parts : due ≡ given ++ missing
  pub all : is_over new ≡ false → missing ≡ []
  pub none : is_over old ≡ true → (given ≡ []) × (is_over new ≡ true)
  pub serves : (items : List (Given Input)) (beats : List Event)
      → Serves told refused contents has_failed old items beats
      → Serves told refused contents has_failed new items (beats ++ given)
