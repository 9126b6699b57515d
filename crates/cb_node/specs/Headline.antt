-- The headline of a node that has finished, and nothing else. A peer is whoever connects to a slot.
use Rattle.std.specs.Prelude.{◌≡◌, ℕ, List, ◌++◌, map, All}
use Rattle.std.specs.List.{AllZip}
use Rattle.cb_peer_state.specs.declared.event.Event.{Event}
use Rattle.cb_trace.specs.declared.trace.TraceEntry.{TraceEntry}
use Rattle.cb_trace.specs.Blocks.{IsOnlySound, blocks_given}
use Rattle.cb_trace.specs.Fold.{EachOpen, first_account, inputs_of, session_of}
use Rattle.cb_crew.specs.declared.work.Given.{Given}
use Rattle.cb_crew.specs.declared.reader_side.ReaderSide.{ReaderSide}
use Rattle.cb_crew.specs.Work.{connections_of}
use Rattle.cb_crew.specs.Desk.{DeskState}
use Rattle.cb_crew.specs.Crew.{AreSidesOf, CrewState, all_queued, names_of}
use Rattle.cb_crew.specs.Headline.{works_of}
use Rattle.cb_session.specs.declared.input.Input.{Input}
use Rattle.cb_work.specs.PeerWork.{WorkState, events_of}
use Rattle.cb_peers.specs.Reading.{QueuedWhatItRead}

-- A connection: the work that served it, and what its reader queued.
pub record KeepsConnection {S H F : Type 0} (work : WorkState S H F) (queued : List (Given Input))
    : Type 0 where
  -- Its trace is the log of all that its session was given. The work still has the last entries.
  pub trace : List TraceEntry
  pub dropped : List TraceEntry
  pub its_trace : trace ≡ dropped ++ work.trace.entries
  -- "The items processed are a prefix of those its reader queued, each once, in order": an equation
  -- of lists.
  pub later : List Event
  pub prefix : inputs_of trace ++ later ≡ events_of queued
  -- "None after that connection's disconnect", the entry that closes the session: each entry found
  -- it open.
  pub none_after : EachOpen (first_account work.trace.settings) trace
  -- "Its session is the one-thread fold of its trace."
  pub fold : work.trace.session ≡ session_of work.trace.settings trace
  -- "Every block handed to the chain is the only sound transaction list under its announced
  -- header."
  pub blocks : All IsOnlySound (blocks_given work.trace.settings trace)

-- A peer: each connection in what its reader queued has a work of its own, in their order.
abbrev pub KeepsPeer : {S H F : Type 0} → ReaderSide Input (WorkState S H F)
    → DeskState (WorkState S H F) Input → Type 0
KeepsPeer side desk = AllZip KeepsConnection (works_of desk) (connections_of (all_queued side))

-- The desk's seat took all that the reader queued, and nothing else.
abbrev pub TookAll : {S H F : Type 0} → ReaderSide Input (WorkState S H F)
    → DeskState (WorkState S H F) Input → Type 0
TookAll side desk = desk.taken ≡ all_queued side

-- All peers of the node's crew, however many there are and however many handlers: the bytes that
-- their sockets gave, of each connection; what their readers queued; and the desks that served it,
-- one for each peer, in their order.
pub record KeepsHeadline {S H F : Type 0} (crew : CrewState) (read : List (List (List ℕ)))
    (desks : List (DeskState (WorkState S H F) Input)) : Type 0 where
  pub sides : List (ReaderSide Input (WorkState S H F))
  pub readers : AreSidesOf crew sides
  -- "Those its reader queued": of each connection, a beginning of what the bytes spell that its
  -- socket gave, each item once and in order.
  pub spelled : AllZip QueuedWhatItRead read sides
  pub inboxes : map (λ desk. desk.inbox.name) desks ≡ names_of crew
  pub taken : AllZip TookAll sides desks
  pub each : AllZip KeepsPeer sides desks
