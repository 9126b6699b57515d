-- How far the comparison of a journal with all traces is.
use Rattle.std.specs.Prelude.{◌≡◌, ◌≢◌, ℕ, ◌+◌, ◌-◌, List, [], ◌∷◌, ◌++◌, drop, length, slice_get, Option, None, Some, if◌then◌else◌}
use Rattle.cb_state.specs.declared.connection.Connection.{Connection}
use Rattle.cb_state.specs.Announcers.{same_connection}
use Rattle.cb_hall.specs.declared.answer.Answer.{Answer}
use Rattle.cb_hall.specs.declared.entry.Entry.{Entry}
use Rattle.cb_hall.specs.Connections.{Slots}
use Rattle.cb_hall.specs.Replica.{Leads, ReplicaState, Steps, heard}
use Rattle.cb_audit.specs.declared.heard.Difference.{Difference}
use Rattle.cb_audit.specs.declared.heard.Heard.{Heard}
use Rattle.cb_audit.specs.declared.place.Place.{Place}
use Rattle.cb_audit.specs.Comparing.{Agrees, HasCome, PartsAt, Seen, SplitsAt, SplitsFirst, first_place}
use Rattle.cb_audit.specs.Counting.{HasTrace, granted}
use Rattle.cb_audit.specs.Order.{AuditedTrace, IsBefore, trace_of}
use Rattle.cb_audit.specs.Turns.{Turn, turns_in, turns_of}

-- One turn more of one connection.
abbrev pub seen_more : Seen → Connection → Turn → Seen
seen_more seen connection turn other =
    if same_connection connection other then seen other ++ turn ∷ [] else seen other

-- How many turns of the journal, and how many of the trace, stand before the first place that both
-- have.
abbrev pub skip_of : Slots → AuditedTrace → ℕ
skip_of kept one = first_place kept one.connection (Some one.trace) - granted kept one.connection

abbrev pub start_of : Slots → AuditedTrace → ℕ
start_of kept one = first_place kept one.connection (Some one.trace) - one.trace.before.told

-- Each trace is compared with what was seen of its connection.
abbrev pub ArePlaced : Slots → List AuditedTrace → Seen → List Place → Type 0
ArePlaced kept audited seen places =
    (i : ℕ) (one : AuditedTrace) (place : Place) → slice_get audited i ≡ Some one
    → slice_get places i ≡ Some place
    → HasCome (start_of kept one) (skip_of kept one) (turns_in one.trace) (seen one.connection)
    place.skip place.next place.differs

-- A connection without a trace.
abbrev pub IsStranger : List AuditedTrace → Connection → Type 0
IsStranger audited connection = trace_of audited connection ≡ None

-- The first connection without a trace of which something was seen.
pub record IsFirstStranger (audited : List AuditedTrace) (seen : Seen) (connection : Connection)
    : Type 0 where
  pub stranger : IsStranger audited connection
  pub some_turn : seen connection ≢ []
  pub earlier : (other : Connection) → IsBefore other connection → IsStranger audited other
      → seen other ≡ []

abbrev pub AreStrangers : List AuditedTrace → Seen → Option Connection → Type 0
AreStrangers audited seen None = (other : Connection) → IsStranger audited other → seen other ≡ []
AreStrangers audited seen (Some connection) = IsFirstStranger audited seen connection

pub record IsHeard (kept : Slots) (audited : List AuditedTrace) (seen : Seen) (places : List Place)
    (stranger : Option Connection) : Type 0 where
  pub long : length places ≡ length audited
  pub placed : ArePlaced kept audited seen places
  pub strangers : AreStrangers audited seen stranger

-- What was seen, where these entries were answered so.
abbrev pub seen_of : List Entry → List Answer → Seen
seen_of entries answers connection = turns_of connection entries answers

-- The entries so far lead here, and what is left leads to the end.
pub record IsPartway (base : ReplicaState) (done : List Entry) (told : List Answer)
    (here : ReplicaState) (left : List Entry) (end : ReplicaState) : Type 0 where
  pub before : Leads base done told here
  pub others : List Answer
  pub after : Leads here left others end

-- One entry more was compared.
pub record Compares (kept : Slots) (audited : List AuditedTrace) (old : ReplicaState)
    (entry : Entry) (new : ReplicaState) (before after : Heard) : Type 0 where
  pub said : Option Answer
  pub steps : Steps old entry said new
  pub more : (base : ReplicaState) (done : List Entry) (told : List Answer)
      → Leads base done told old
      → IsHeard kept audited (seen_of done told) before.places.items before.stranger
      → IsHeard kept audited (seen_of (done ++ entry ∷ []) (told ++ heard entry said))
      after.places.items after.stranger

-- ---- where they differ

-- The turns of one trace differ from what was seen of its connection, first at this place.
pub record IsDifference (kept : Slots) (one : AuditedTrace) (turns seen : List Turn)
    (difference : Difference) : Type 0 where
  pub connection : difference.connection ≡ one.connection
  pub index : ℕ
  pub is : difference.place ≡ first_place kept one.connection (Some one.trace) + index
  pub parts : PartsAt (drop (skip_of kept one) seen) (drop (start_of kept one) turns) index

-- The first of the connections with a trace whose turns differ.
pub record IsFirstSplit (kept : Slots) (audited : List AuditedTrace) (seen : Seen)
    (difference : Difference) : Type 0 where
  pub here : SplitsAt kept audited seen difference.connection difference.place
  pub earlier : (other : Connection) → IsBefore other difference.connection → HasTrace audited other
      → Agrees kept audited seen other

abbrev pub IsSplitWithTrace : Slots → List AuditedTrace → Seen → Option Difference → Type 0
IsSplitWithTrace kept audited seen None =
    (other : Connection) → HasTrace audited other → Agrees kept audited seen other
IsSplitWithTrace kept audited seen (Some difference) = IsFirstSplit kept audited seen difference

-- The first of all connections whose turns differ.
abbrev pub IsSplit : Slots → List AuditedTrace → Seen → Option Difference → Type 0
IsSplit kept audited seen None = (connection : Connection) → Agrees kept audited seen connection
IsSplit kept audited seen (Some difference) =
    SplitsFirst kept audited seen difference.connection difference.place
