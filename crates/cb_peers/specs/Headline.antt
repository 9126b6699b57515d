-- What a node promises of its connections: what was made of all that their readers queued.
use Rattle.std.specs.Prelude.{◌≡◌, ◌⊎◌, ℕ, true, false, List, [], length, map, All, Option}
use Rattle.std.specs.List.{AllZip, range_with_len}
use Rattle.cb_peer_state.specs.Writing.{Wrote}
use Rattle.cb_wire.specs.Stream.{texts}
use Rattle.cb_peer_state.specs.declared.state.State.TheVariants.{Closed}
use Rattle.cb_peer_state.specs.declared.state.CloseReason.TheVariants.{Bye}
use Rattle.cb_peer_state.specs.Event.{is_told, loses}
use Rattle.cb_peer_state.specs.State.{is_closed}
use Rattle.cb_trace.specs.declared.trace.TraceEntry.{TraceEntry}
use Rattle.cb_trace.specs.Blocks.{IsOnlySound, blocks_given}
use Rattle.cb_trace.specs.Fold.{has_kind, number_of, sends, session_of}
use Rattle.cb_trace.specs.Kept.{KeepsHistory}
use Rattle.cb_trace.specs.Prompt.{IsPrompt}
use Rattle.cb_trace.specs.Trace.{StandsFor, weight_of}
use Rattle.cb_session.specs.Serving.{IsInOrder}
use Rattle.cb_crew.specs.declared.queued.Queued.{Queued}
use Rattle.cb_crew.specs.declared.work.Given.{Given}
use Rattle.cb_crew.specs.declared.reader_side.ReaderSide.{ReaderSide}
use Rattle.cb_crew.specs.Work.{AreWorksOf, connections_of}
use Rattle.cb_crew.specs.Desk.{DeskState, first_label}
use Rattle.cb_crew.specs.Crew.{CrewState, all_queued, names_of}
use Rattle.cb_crew.specs.Headline.{works_of}
use Rattle.cb_crew.specs.Past.{LatestStay}
use Rattle.cb_session.specs.declared.input.Input.{Input}
use Rattle.cb_work.specs.PeerWork.{HoldsNothing, WorkState, events_of, label_of, was_starved}

-- One connection: what its reader queued, and what its work made of that. `contents` tells what a
-- sink holds.
pub record ServesConnection {S H F : Type 0} (contents : S → Option (List ℕ))
    (work : WorkState S H F) (queued : List (Given Input)) : Type 0 where
  -- All entries of the connection's trace since the beginning.
  pub history : List TraceEntry
  pub stands : StandsFor work.trace history
  -- The items processed are a prefix of those that the reader queued: each once, in order, and none
  -- after the entry that ended the session. If the peer's own end did, all were processed, and
  -- memory never ran out for one.
  pub in_order : IsInOrder (events_of queued) work.trace.settings history
  pub kept_at_bye : work.trace.session.state ≡ Closed Bye → was_starved queued ≡ false
  -- The session is over.
  pub over : is_closed work.trace.session.state ≡ true
  -- Each item had its answers before the next came.
  pub prompt : IsPrompt work.trace.settings history
  -- The session is the fold of its trace, on one thread.
  pub session : work.trace.session ≡ session_of work.trace.settings history
  -- What was written into the sink, which was empty, is a prefix of the text of what this fold
  -- sends. Nothing is missing if the hall answered, no write failed and memory didn't run out.
  pub sink : S
  pub empty : HoldsNothing (contents sink)
  pub missing : List ℕ
  pub wrote : Wrote (contents sink) (contents work.sink) (texts (sends work.trace.settings history))
      work.written missing
  pub whole : has_kind is_told history ≡ true → has_kind loses history ≡ false → missing ≡ []
  -- As many answers were logged as the badge counts questions.
  pub answers : number_of is_told history ≡ work.badge.count
  -- Each block that was given to the hall is the only sound one under its header.
  pub blocks : All IsOnlySound (blocks_given work.trace.settings history)

-- Whose connection a work serves, as a number.
abbrev pub peer_label : {S H F : Type 0} → WorkState S H F → ℕ
peer_label work = label_of work.badge.connection

-- One peer: all that its reader queued, and the works of its desk. Each connection was served by a
-- work of its own. The first is the crew's work with the label `first`. Each later one is the work
-- that its open mark brought.
pub record ServesPeer {S H F : Type 0} (contents : S → Option (List ℕ)) (first : ℕ)
    (queued : List (Queued Input (WorkState S H F))) (works : List (WorkState S H F)) : Type 0 where
  pub whose : AreWorksOf peer_label first queued works
  pub each : AllZip (ServesConnection contents) works (connections_of queued)

-- The desk has served all that this side of its peer's reader queued. Its seat took just that.
pub record ServesSide {S H F : Type 0} (contents : S → Option (List ℕ))
    (side : ReaderSide Input (WorkState S H F)) (desk : DeskState (WorkState S H F) Input)
    : Type 0 where
  pub taken : desk.taken ≡ all_queued side
  pub served : ServesPeer contents (first_label peer_label desk) (all_queued side) (works_of desk)

-- It is as before, or its trace keeps no entry.
abbrev pub IsSameOrEmptied : {S H F : Type 0} → WorkState S H F → WorkState S H F → Type 0
IsSameOrEmptied old new = (new ≡ old) ⊎ (weight_of new.trace ≡ 0)

-- What the works of a desk still have of their traces. The latest work lost nothing but what due
-- checkpoints dropped (`KeepsHistory`). Nor had any earlier one as its connection ended (`ended`).
-- Since then the oldest of these were emptied; the latest are as they were, as far as 1,000,000
-- bytes go.
pub record KeepsTraces {S H F : Type 0} (desk : DeskState (WorkState S H F) Input) : Type 0 where
  pub latest : KeepsHistory desk.work.trace
  pub ended : List (WorkState S H F)
  pub whole : All (λ work. KeepsHistory work.trace) ended
  pub each : AllZip IsSameOrEmptied ended desk.past
  pub recent : LatestStay (λ work. weight_of work.trace) ended desk.past

-- All peers: their readers' sides, and the desks of the crew that served them. There is one desk
-- for each peer, in order. Its first work is the one with which the crew was made for this peer.
pub record IsHeadline {S H F : Type 0} (contents : S → Option (List ℕ)) (crew : CrewState)
    (sides : List (ReaderSide Input (WorkState S H F)))
    (desks : List (DeskState (WorkState S H F) Input)) : Type 0 where
  pub peers : map (λ desk. desk.inbox.peer) desks ≡ range_with_len 0 (length crew.inboxes)
  pub inboxes : map (λ desk. desk.inbox.name) desks ≡ names_of crew
  pub labels : map (first_label peer_label) desks ≡ crew.labels
  pub each : AllZip (ServesSide contents) sides desks
  pub kept : All KeepsTraces desks
