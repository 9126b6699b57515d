-- A connection's questions and answers, compared: as the journal tells them and as its trace does.
-- The journal is the log of the hall's calls, a trace that of a connection's events.
use Rattle.std.specs.Prelude.{◌≡◌, ◌≢◌, ℕ, ◌+◌, ◌-◌, ◌≤◌, ◌<◌, ◌^◌, max, List, length, drop, take, slice_get, Option, None, Some}
use Rattle.cb_state.specs.declared.connection.Connection.{Connection}
use Rattle.cb_hall.specs.Connections.{Slots}
use Rattle.cb_trace.specs.Trace.{TraceView}
use Rattle.cb_audit.specs.Counting.{granted, told_by}
use Rattle.cb_audit.specs.Order.{AuditedTrace, IsBefore, trace_of}
use Rattle.cb_audit.specs.Turns.{Turn, turns_by}

-- What was seen of each connection in the journal, since the hall's base.
abbrev pub Seen : Type 0
Seen = Connection → List Turn

-- How many answers came before the base of a trace.
abbrev pub told_before : Option TraceView → ℕ
told_before None = 0
told_before (Some trace) = trace.before.told

-- The place, counted from 0 at the connection's first answer, of the first answer that neither the
-- hall nor the trace has dropped. `kept` are the connections at the hall's base.
abbrev pub first_place : Slots → Connection → Option TraceView → ℕ
first_place kept connection trace = max (granted kept connection) (told_before trace)

-- The connection's turns from that place on: by the journal, and by the trace.
abbrev pub journal_turns : Slots → List AuditedTrace → Seen → Connection → List Turn
journal_turns kept audited seen connection =
    drop (first_place kept connection (trace_of audited connection) - granted kept connection)
    (seen connection)

abbrev pub trace_turns : Slots → List AuditedTrace → Connection → List Turn
trace_turns kept audited connection =
    drop
    (first_place kept connection (trace_of audited connection)
    - told_before (trace_of audited connection))
    (turns_by (trace_of audited connection))

-- Each question and each answer is the same in both.
abbrev pub Agrees : Slots → List AuditedTrace → Seen → Connection → Type 0
Agrees kept audited seen connection =
    journal_turns kept audited seen connection ≡ trace_turns kept audited connection

-- The lists are equal before this place, and differ there.
pub record PartsAt (ours theirs : List Turn) (place : ℕ) : Type 0 where
  pub before : take place ours ≡ take place theirs
  pub here : slice_get ours place ≢ slice_get theirs place

-- The question or the answer of this place differs, and none before it.
pub record SplitsAt (kept : Slots) (audited : List AuditedTrace) (seen : Seen)
    (connection : Connection) (place : ℕ) : Type 0 where
  pub index : ℕ
  pub is : place ≡ first_place kept connection (trace_of audited connection) + index
  pub parts : PartsAt (journal_turns kept audited seen connection)
      (trace_turns kept audited connection) index

-- Each connection before this one agrees.
pub record SplitsFirst (kept : Slots) (audited : List AuditedTrace) (seen : Seen)
    (connection : Connection) (place : ℕ) : Type 0 where
  pub earlier : (other : Connection) → IsBefore other connection → Agrees kept audited seen other
  pub here : SplitsAt kept audited seen connection place

-- ---- how the code compares

-- How far the comparison is. `skip` turns of the journal are still passed over. `next` is the
-- place, in the trace, of the next turn to compare. `differs` is the first place that differs, if
-- one does.
abbrev pub IsCome : ℕ → List Turn → List Turn → ℕ → Option ℕ → Type 0
IsCome start theirs ours next None =
    (next ≡ start + length ours) × (ours ≡ take (length ours) (drop start theirs))
IsCome start theirs ours next (Some differs) =
    (place : ℕ) × (differs ≡ start + place) × (place < length ours)
    × PartsAt ours (drop start theirs) place

-- The comparison of what was seen of the journal, but for the first `skip`, with the trace from
-- `start` on.
pub record HasCome (start skip : ℕ) (theirs seen : List Turn) (left next : ℕ) (differs : Option ℕ)
    : Type 0 where
  pub remaining : left ≡ skip - length seen
  pub come : IsCome start theirs (drop skip seen) next differs

-- All was seen, and this is where they differ.
pub record EndsAt (start : ℕ) (theirs ours : List Turn) (differs : ℕ) : Type 0 where
  pub place : ℕ
  pub is : differs ≡ start + place
  pub within : place ≤ length ours
  pub parts : PartsAt ours (drop start theirs) place

-- No place is too large for its field.
pub record AreFew (kept : Slots) (audited : List AuditedTrace) (seen : Seen) : Type 0 where
  pub granted_few : (connection : Connection) → granted kept connection ≤ 2 ^ 62
  pub told_few : (connection : Connection) → told_by (trace_of audited connection) ≤ 2 ^ 62
  pub seen_few : (connection : Connection) → length (seen connection) ≤ 2 ^ 62
