-- Blocks that had no room among the wanted ones, and the header from which they are asked for
-- again.
use Rattle.std.specs.Prelude.{◌≡◌, true, false, List, [], ◌∷◌, filter, Option, Some, None, if◌then◌else◌}
use Rattle.std.specs.List.{list_any}
use Rattle.cb_base.specs.declared.hash.Hash256.{Hash256}
use Rattle.cb_block.specs.declared.header.Header.{Header}
use Rattle.cb_peer_state.specs.Fetching.{has, is_fetched, wants_none}
use Rattle.cb_hall.specs.declared.answer.Answer.TheVariants as answers
use Rattle.cb_state.specs.declared.wanting.Need.{Need}
use Rattle.cb_peer_state.specs.Inventory.{asking_headers}
use Rattle.cb_wire.specs.declared.message.Message.{Message}
use Rattle.cb_peer_state.specs.declared.event.Event.{Event}
use Rattle.cb_peer_state.specs.declared.event.Event.TheVariants as events
use Rattle.cb_peer_state.specs.declared.session_state.SessionState.{SessionState}
use Rattle.cb_peer_state.specs.Session.{Stepped}
use Rattle.cb_peer_state.specs.State.{is_closed, remembers}
use Rattle.cb_peer_state.specs.Laws.{asks_for_headers, rebuilds}

-- The requests for headers among messages.
abbrev pub header_requests : List Message → List Message
header_requests sent = filter asks_for_headers sent

-- The header that a session remembers if some blocks of a `headers` have no room: the one that it
-- remembers already, or else the one before the message's first.
abbrev pub header_before : SessionState → Header → Option Hash256
header_before s first = if remembers s then s.resume_from else Some first.prev

-- A missing block is in flight or wanted; or the header is remembered; or headers were requested
-- from it, and from no other.
pub data IsKept (hash : Hash256) (before : Option Hash256) (step : Stepped) : Type 0 where
  fetched : is_fetched step.session.fetch hash ≡ true → IsKept hash before step
  remembered : (header : Hash256) → before ≡ Some header → step.session.resume_from ≡ Some header
      → IsKept hash before step
  asked : (header : Hash256) → before ≡ Some header
      → header_requests step.messages ≡ asking_headers (header ∷ []) ∷ [] → IsKept hash before step

-- What becomes of a remembered header: it stays, and no headers are requested; or headers are
-- requested from it alone, when nothing is wanted any more, and it is forgotten; or the session is
-- over.
pub data Resumes (before : Hash256) (step : Stepped) : Type 0 where
  waits : step.session.resume_from ≡ Some before
      → list_any asks_for_headers step.messages ≡ false → Resumes before step
  asks : step.session.resume_from ≡ None
      → header_requests step.messages ≡ asking_headers (before ∷ []) ∷ []
      → wants_none step.session.fetch ≡ true → Resumes before step
  ends : is_closed step.session.state ≡ true → step.messages ≡ [] → Resumes before step

-- Why a block is wanted after an event: it was; or it couldn't be rebuilt from its compact form; or
-- the hall said which wanted blocks are still needed.
pub data IsWantedBy (hash : Hash256) (s : SessionState) (event : Event) : Type 0 where
  was : has s.fetch.wanted hash ≡ true → IsWantedBy hash s event
  falls : rebuilds hash s event ≡ true → IsWantedBy hash s event
  needed : (need : Need) → event ≡ events.Told (answers.Need need) → IsWantedBy hash s event
