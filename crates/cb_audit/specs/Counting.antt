-- How many questions of a connection the hall granted, and how many answers its trace has. The hall
-- is the state that all peers share.
use Rattle.std.specs.Prelude.{◌≡◌, ◌≢◌, ◌⊎◌, ℕ, ◌<◌, ◌≤◌, List, Option, None, Some}
use Rattle.std.specs.Option.{option_map_or}
use Rattle.cb_state.specs.declared.connection.Connection.{Connection}
use Rattle.cb_hall.specs.Connections.{Slots, connected_of, latest_of, most_peers}
use Rattle.cb_trace.specs.Trace.{TraceView}
use Rattle.cb_audit.specs.Order.{AuditedTrace, IsBefore, IsTraceAt, trace_of}

-- How many questions of a connection were granted; 0 if there is no such connection.
abbrev pub granted : Slots → Connection → ℕ
granted slots connection =
    option_map_or (λ connected. connected.count) (connected_of slots connection) 0

-- How many answers a trace has, with those that it dropped. Where there is no trace there is none.
abbrev pub told_by : Option TraceView → ℕ
told_by None = 0
told_by (Some trace) = trace.total.told

-- The hall granted as many questions as the connection was told answers.
abbrev pub IsEven : Slots → List AuditedTrace → Connection → Type 0
IsEven slots audited connection = granted slots connection ≡ told_by (trace_of audited connection)

abbrev pub AreEven : Slots → List AuditedTrace → Type 0
AreEven slots audited = (connection : Connection) → IsEven slots audited connection

-- The numbers differ, and those of each connection before it are equal.
pub record IsFirstUneven (slots : Slots) (audited : List AuditedTrace) (connection : Connection)
    : Type 0 where
  pub uneven : granted slots connection ≢ told_by (trace_of audited connection)
  pub earlier : (other : Connection) → IsBefore other connection → IsEven slots audited other

-- ---- how the code looks for it

-- The connection has a trace.
abbrev pub HasTrace : List AuditedTrace → Connection → Type 0
HasTrace audited connection = (place : ℕ) × IsTraceAt audited connection place

-- The hall knows the connection: it is one of its peer's.
abbrev pub IsOfPeer : Slots → ℕ → Connection → Type 0
IsOfPeer slots peer connection =
    (connection.peer ≡ peer) × (0 < connection.generation)
    × (connection.generation ≤ latest_of slots peer)

-- It is one of the first peers'.
abbrev pub IsOfPeers : Slots → ℕ → Connection → Type 0
IsOfPeers slots peers connection =
    (connection.peer < peers) × IsOfPeer slots connection.peer connection

-- Only the peers' connections were granted anything.
abbrev pub AreOfAll : Slots → Type 0
AreOfAll slots =
    (connection : Connection) → 0 < granted slots connection → IsOfPeers slots most_peers connection

-- The numbers differ, and those of each earlier connection of a kind are equal.
pub record IsFirstAmong (slots : Slots) (audited : List AuditedTrace) (Kind : Connection → Type 0)
    (connection : Connection) : Type 0 where
  pub uneven : granted slots connection ≢ told_by (trace_of audited connection)
  pub earlier : (other : Connection) → IsBefore other connection → Kind other
      → IsEven slots audited other

-- The first connection of a kind whose numbers differ, if there is one.
abbrev pub IsFoundAmong : Slots → List AuditedTrace → (Connection → Type 0) → Option Connection
    → Type 0
IsFoundAmong slots audited Kind None =
    (other : Connection) → Kind other → IsEven slots audited other
IsFoundAmong slots audited Kind (Some connection) = IsFirstAmong slots audited Kind connection

-- Of two connections the earlier one, if there is one.
pub record IsEarlier (one other : Option Connection) (found : Connection) : Type 0 where
  pub is : (one ≡ Some found) ⊎ (other ≡ Some found)
  pub not_behind : (connection : Connection) → ((one ≡ Some connection) ⊎ (other ≡ Some connection))
      → IsBefore connection found → ⊥
