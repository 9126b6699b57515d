-- A trace: a session, and the log of its events since the base. It stands for all entries since the
-- beginning. Those before the base were dropped, and their numbers are kept.
use Rattle.std.specs.Prelude.{◌≡◌, ◌≢◌, ◌⊎◌, ℕ, ◌+◌, ◌*◌, ◌≤◌, ◌<◌, ◌^◌, ◌||◌, ◌&&◌, Bool, true, false, List, [], ◌∷◌, ◌++◌, length, nat_lt, not, is_none, Option, None, if◌then◌else◌}
use Rattle.std.specs.List.{sum_by}
use Rattle.cb_peer_state.specs.Fetching.{idle}
use Rattle.cb_hall.specs.declared.question.Question.{Question}
use Rattle.cb_wire.specs.declared.message.Message.{Message}
use Rattle.cb_peer_state.specs.declared.settings.Settings.{Settings}
use Rattle.cb_peer_state.specs.declared.event.Event.{Event}
use Rattle.cb_peer_state.specs.declared.event.Event.TheVariants as events
use Rattle.cb_peer_state.specs.Questions.{pending_question}
use Rattle.cb_peer_state.specs.Event.{held_by, is_input, is_told, kind_of}
use Rattle.cb_peer_state.specs.Session.{Stepped, is_light, spares, takes_no_memory}
use Rattle.cb_peer_state.specs.declared.session_state.SessionState.{SessionState}
use Rattle.cb_peer_state.specs.State.{is_closed}
use Rattle.cb_trace.specs.declared.trace.TraceEntry.{TraceEntry}
use Rattle.cb_trace.specs.declared.trace.Counts.{Counts}
use Rattle.cb_trace.specs.Fold.{Account, EachOpen, account_step, entry_step, first_account, number_of, session_of}

-- The numbers of entries, of inputs and of answers.
abbrev pub counts_of : List TraceEntry → Counts
counts_of entries = record {
  entries = length entries;
  items = number_of is_input entries;
  told = number_of is_told entries;
}

-- The numbers with one more entry.
abbrev pub counts_with : Counts → Event → Counts
counts_with counts event =
    record {
      entries = counts.entries + 1;
      items = counts.items + (if is_input (kind_of event) then 1 else 0);
      told = counts.told + (if is_told (kind_of event) then 1 else 0);
    }

-- The numbers of fewer than 2^62 entries.
pub record AreCounts (counts : Counts) : Type 0 where
  pub few : counts.entries < 2 ^ 62
  pub items : counts.items ≤ counts.entries
  pub told : counts.told ≤ counts.entries

-- A trace: the settings of its session, the session at the base and the numbers before it, the
-- entries since, the session after them and the numbers of all, and the room for more entries.
pub record TraceView : Type 0 where
  pub settings : Settings
  pub base : SessionState
  pub before : Counts
  pub entries : List TraceEntry
  pub session : SessionState
  pub total : Counts
  pub room : ℕ

-- The session of the trace isn't over.
abbrev pub IsOpen : TraceView → Type 0
IsOpen trace = is_closed trace.session.state ≡ false

-- The trace stands for this history: entries that were dropped, and then its own. Its base is the
-- session after the dropped ones, its session the one after all, and the numbers are theirs.
pub record StandsFor (trace : TraceView) (history : List TraceEntry) : Type 0 where
  pub dropped : List TraceEntry
  pub parts : history ≡ dropped ++ trace.entries
  pub base : trace.base ≡ session_of trace.settings dropped
  pub before : trace.before ≡ counts_of dropped
  pub session : trace.session ≡ session_of trace.settings history
  pub total : trace.total ≡ counts_of history
  pub each : EachOpen (first_account trace.settings) history

-- What every trace keeps.
pub record IsTrace (trace : TraceView) : Type 0 where
  pub history : List TraceEntry
  pub stands : StandsFor trace history
  -- No question is open at the base.
  pub free : trace.base.pending ≡ None
  -- While the session isn't over, there is room for one more entry, and there are fewer than 2^62.
  pub spare : IsOpen trace → 1 ≤ trace.room
  pub limit : IsOpen trace → trace.total.entries < 2 ^ 62

-- How many bytes the entries hold.
abbrev pub held_of : List TraceEntry → ℕ
held_of entries = sum_by (λ entry. held_by entry.event) entries

-- How many bytes the entries take, about: those that they hold, and 256 for each.
abbrev pub weight_of : TraceView → ℕ
weight_of trace = held_of trace.entries + 256 * length trace.entries

-- A checkpoint is due: no question is open, and there are 65,000 entries or more, or they hold more
-- than 8,000,000 bytes.
abbrev pub is_due : TraceView → Bool
is_due trace =
    is_none trace.session.pending
    && (not (nat_lt (length trace.entries) 65000) || nat_lt 8000000 (held_of trace.entries))

-- The step that the next entry of a trace makes.
abbrev pub next_step : TraceView → TraceEntry → Stepped
next_step trace entry = entry_step trace.total.entries trace.session entry

-- The trace with one more entry.
pub record Grows (old new : TraceView) (entry : TraceEntry) : Type 0 where
  pub settings : new.settings ≡ old.settings
  pub base : new.base ≡ old.base
  pub before : new.before ≡ old.before
  pub entries : new.entries ≡ old.entries ++ entry ∷ []
  pub session : new.session ≡ (next_step old entry).session
  pub room : new.room + 1 ≡ old.room
  pub history : (history : List TraceEntry) → StandsFor old history
      → StandsFor new (history ++ entry ∷ [])

-- The question asked is the one that is open afterwards. If none is asked, none is open, or the
-- item and the question that were open stay so, since the event didn't fit or was a probe.
abbrev pub AsksPending : SessionState → SessionState → Option Question → Type 0
AsksPending before after asked =
    (asked ≡ pending_question after)
    ⊎ ((asked ≡ None) × (after.pending ≡ before.pending)
    × (pending_question after ≡ pending_question before))

-- The trace was given an event, and returned what its session sent and asked. The entry is starved
-- only if the step takes memory. An answer is never starved if it doesn't fit. Nor is one to which
-- nothing is hashed, copied or listed (`weighs_at` of cb_peer_state), nothing is sent, and nothing
-- is asked but for the locator or what is new; nor a probe to which nothing is sent.
pub record TraceSteps (old new : TraceView) (event : Event) (sent : List Message)
    (asked : Option Question) : Type 0 where
  pub starved : Bool
  pub grows : Grows old new (record { event = event; starved = starved })
  pub messages : sent ≡ (next_step old (record { event = event; starved = starved })).messages
  pub question : asked ≡ (next_step old (record { event = event; starved = starved })).question
  pub stands : AsksPending old.session new.session asked
  pub calm : takes_no_memory event ≡ true → starved ≡ false
  pub silent : spares old.session event ≡ true
      → (next_step old (record { event = event; starved = false })).messages ≡ []
      → is_light (next_step old (record { event = event; starved = false })).question ≡ true
      → starved ≡ false

-- The trace stands for the same history with the same session.
pub record IsAsBefore (old new : TraceView) : Type 0 where
  pub settings : new.settings ≡ old.settings
  pub session : new.session ≡ old.session
  pub total : new.total ≡ old.total
  pub history : (history : List TraceEntry) → StandsFor old history → StandsFor new history

-- The trace stands for the same history with the same session. If a checkpoint was due, that
-- session is the base and there are no entries. Otherwise base and entries are unchanged.
pub record Rests (old new : TraceView) : Type 0 where
  pub same : IsAsBefore old new
  pub taken : is_due old ≡ true
      → (new.base ≡ old.session) × (new.before ≡ old.total) × (new.entries ≡ [])
  pub kept : is_due old ≡ false
      → (new.base ≡ old.base) × (new.before ≡ old.before) × (new.entries ≡ old.entries)

-- The trace without its entries: the session is the base, and all numbers are kept. There is no
-- room.
pub record IsShed (old new : TraceView) : Type 0 where
  pub same : IsAsBefore old new
  pub base : new.base ≡ old.session
  pub before : new.before ≡ old.total
  pub entries : new.entries ≡ []
  pub room : new.room ≡ 0

-- The trace was handed out: the session is the base, and all numbers are kept.
pub record HandsOut (old new : TraceView) : Type 0 where
  pub same : IsAsBefore old new
  pub base : new.base ≡ old.session
  pub before : new.before ≡ old.total
  pub entries : new.entries ≡ []
  pub room : 2 ≤ new.room

-- The session has blocks in download, or a block that is being rebuilt (BIP 152). Only then its
-- copy takes memory while no question is open.
abbrev pub NeedsBase : SessionState → Type 0
NeedsBase session = (session.fetch ≢ idle) ⊎ (session.compact.partial ≢ None)

-- Room was made for two entries.
pub record HasRoom (old new : TraceView) : Type 0 where
  pub rests : Rests old new
  pub room : 2 ≤ new.room

-- There was no memory for the room, and `NoMemory` took the last place.
pub record RanOut (old new : TraceView) : Type 0 where
  pub between : TraceView
  pub rests : Rests old between
  pub grows : Grows between new (record { event = events.NoMemory; starved = false })
  pub closed : is_closed new.session.state ≡ true
  pub room : new.room ≡ 0

-- There was no memory for a checkpoint that was due, and `NoMemory` took a place. The session's
-- copy takes memory.
pub record LacksBase (old new : TraceView) : Type 0 where
  pub due : is_due old ≡ true
  pub needs : NeedsBase old.session
  pub grows : Grows old new (record { event = events.NoMemory; starved = false })
  pub closed : is_closed new.session.state ≡ true

abbrev pub Readied : TraceView → TraceView → Bool → Type 0
Readied old new true = HasRoom old new
Readied old new false = RanOut old new ⊎ LacksBase old new

-- ---- the questions that were open

-- The question that was open before an answer.
abbrev pub asked_at : Account → TraceEntry → List (Option Question)
asked_at account entry =
    if is_told (kind_of entry.event) then pending_question account.session ∷ [] else []

-- The questions that were open before each answer, in order, found by folding the entries again.
abbrev pub asked_from : Account → List TraceEntry → List (Option Question)
asked_from account [] = []
asked_from account (entry ∷ entries) =
    asked_at account entry ++ asked_from (account_step account entry) entries

-- The fold's account at the base, as if nothing had been sent or answered before.
abbrev pub base_account : TraceView → Account
base_account trace = record {
  session = trace.base;
  count = trace.before.entries;
  sent = [];
  replies = [];
}

-- Of all answers of the history, these questions were open before the last ones. The number of
-- earlier answers is the one that the trace keeps.
pub record AskedLast (settings : Settings) (history : List TraceEntry) (told : ℕ)
    (asked : List (Option Question)) : Type 0 where
  pub earlier : List (Option Question)
  pub parts : asked_from (first_account settings) history ≡ earlier ++ asked
  pub number : length earlier ≡ told
