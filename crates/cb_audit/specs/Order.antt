-- Connections in their order, and the traces to be audited: the logs of connections' events.
use Rattle.std.specs.Prelude.{◌≡◌, ◌⊎◌, ℕ, ◌<◌, List, [], ◌∷◌, Option, None, Some, slice_get, if◌then◌else◌}
use Rattle.cb_state.specs.declared.connection.Connection.{Connection}
use Rattle.cb_state.specs.Announcers.{same_connection}
use Rattle.cb_trace.specs.Trace.{TraceView}

-- A connection with its trace.
pub record AuditedTrace : Type 0 where
  pub connection : Connection
  pub trace : TraceView

-- Connections are ordered by their peers' numbers, those of one peer by generation.
abbrev pub IsBefore : Connection → Connection → Type 0
IsBefore one other =
    (one.peer < other.peer) ⊎ ((one.peer ≡ other.peer) × (one.generation < other.generation))

-- The traces are in the order of their connections. So no connection has two.
abbrev pub AreInOrder : List AuditedTrace → Type 0
AreInOrder audited =
    (i j : ℕ) (one other : AuditedTrace) → i < j → slice_get audited i ≡ Some one
    → slice_get audited j ≡ Some other → IsBefore one.connection other.connection

-- The trace of a connection, if it has one.
abbrev pub trace_of : List AuditedTrace → Connection → Option TraceView
trace_of [] connection = None
trace_of (one ∷ others) connection =
    if same_connection one.connection connection then Some one.trace else trace_of others connection

-- This place of the list has the connection's trace.
abbrev pub IsTraceAt : List AuditedTrace → Connection → ℕ → Type 0
IsTraceAt audited connection place =
    (one : AuditedTrace) × (slice_get audited place ≡ Some one) × (one.connection ≡ connection)
