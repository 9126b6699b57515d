-- What was sent and answered over a whole trace, in the protocol's words.
use Rattle.std.specs.Prelude.{◌≡◌, ℕ, ◌+◌, pos, Bool, true, false, not, ◌&&◌, ◌||◌, int_lt, if◌then◌else◌, List, [], ◌∷◌, ◌++◌, length, filter, filter_map, Option, Some, None}
use Rattle.cb_base.specs.declared.hash.Hash256.{Hash256}
use Rattle.cb_block.specs.declared.header.Header.{Header}
use Rattle.cb_chain.specs.Entries.{block_hash}
use Rattle.cb_peer_state.specs.Fetching.{blocks_in, has}
use Rattle.cb_hall.specs.Histories.{Reply}
use Rattle.cb_hall.specs.declared.answer.Answer.{Answer}
use Rattle.cb_hall.specs.declared.answer.Answer.TheVariants as answers
use Rattle.cb_hall.specs.declared.question.Question.{Question}
use Rattle.cb_hall.specs.declared.question.Question.TheVariants as questions
use Rattle.cb_hall.specs.declared.question.Request.TheVariants.{After}
use Rattle.cb_wire.specs.declared.item.Item.{Item}
use Rattle.cb_wire.specs.declared.item.Item.TheVariants.{Good}
use Rattle.cb_wire.specs.declared.message.Message.{Message}
use Rattle.cb_wire.specs.declared.message.Message.TheVariants as messages
use Rattle.cb_peer_state.specs.declared.event.Event.{Event}
use Rattle.cb_peer_state.specs.declared.event.Event.TheVariants as events
use Rattle.cb_peer_state.specs.declared.settings.Settings.{Settings}
use Rattle.cb_peer_state.specs.declared.session_state.SessionState.{SessionState}
use Rattle.cb_peer_state.specs.Pings.{ping_nonce}
use Rattle.cb_peer_state.specs.Questions.{is_nil}
use Rattle.cb_peer_state.specs.Replying.{differ, is_orphan}
use Rattle.cb_peer_state.specs.State.{is_closed, is_ready}
use Rattle.cb_trace.specs.declared.trace.TraceEntry.{TraceEntry}
use Rattle.cb_trace.specs.Fold.{Account, account_step, replies, sends, session_of}

-- The number of messages that meet a test.
abbrev pub number_sent : (Message → Bool) → List Message → ℕ
number_sent test sent = length (filter test sent)

-- The session met the test before the entries or after one of them.
abbrev pub came_to : (SessionState → Bool) → Account → List TraceEntry → Bool
came_to test account [] = test account.session
came_to test account (entry ∷ entries) =
    test account.session || came_to test (account_step account entry) entries

-- ---- blocks announced by their headers (BIP 130)

abbrev pub is_send_headers : Message → Bool
is_send_headers messages.SendHeaders = true
is_send_headers other = false

-- The handshake is complete, with a peer that knows `sendheaders`: its version is 70012 or more.
abbrev pub knows_send_headers : SessionState → Bool
knows_send_headers s = is_ready s.state && not (int_lt s.peer.version (pos 70012))

-- A `sendheaders`: the peer asks for blocks to be announced by their headers.
abbrev pub is_wish : Item → Bool
is_wish (Good messages.SendHeaders) = true
is_wish other = false

abbrev pub says_send_headers : Event → Bool
says_send_headers (events.Said item) = is_wish item
says_send_headers other = false

-- The headers of a `headers` message.
abbrev pub headers_in : Message → Option (List Header)
headers_in (messages.Headers headers) = Some headers
headers_in other = None

-- The headers that the hall answered to a `getheaders`.
abbrev pub following_in : Question → Answer → Option (List Header)
following_in (questions.Serve (After locator stop)) (answers.Following headers) = Some headers
following_in question answer = None

abbrev pub following : Reply → Option (List Header)
following reply = following_in reply.question reply.answer

-- The `headers` messages sent are the first of the hall's answers to `getheaders`, each once and in
-- order. They are all of them while the session isn't over.
pub record SendsWhatFollows (settings : Settings) (entries : List TraceEntry) : Type 0 where
  pub unsent : List (List Header)
  pub parts : filter_map following (replies settings entries)
      ≡ filter_map headers_in (sends settings entries) ++ unsent
  pub all : is_closed (session_of settings entries).state ≡ false → unsent ≡ []

-- ---- pings (BIP 31)

abbrev pub is_probe : Event → Bool
is_probe events.Probe = true
is_probe other = false

-- The event is a probe that found the session ready and left it so. It doesn't where memory runs
-- out for the `ping`, or the trace is full.
abbrev pub is_heeded : SessionState → Event → SessionState → Bool
is_heeded before event after = is_probe event && (is_ready before.state && is_ready after.state)

-- The number of such probes.
abbrev pub probes_heeded : Account → List TraceEntry → ℕ
probes_heeded account [] = 0
probes_heeded account (entry ∷ entries) =
    (if is_heeded account.session entry.event (account_step account entry).session then 1 else 0)
    + probes_heeded (account_step account entry) entries

-- The nonces of the pings among messages, in order.
abbrev pub pings_in : List Message → List ℕ
pings_in sent = filter_map ping_nonce sent

-- ---- blocks being downloaded

-- The blocks that an answer lists as needed, of those that were asked about.
abbrev pub needed_in : Question → Answer → List Hash256
needed_in (questions.Want entries) (answers.Need need) = blocks_in need.entries
needed_in question answer = []

-- The blocks that an answer tells as missing: those that it lists of headers, or of those that were
-- asked about; or the block that the hall was given before its parent.
abbrev pub lacking_of : Question → Answer → List Hash256
lacking_of (questions.Headers headers) (answers.Heads heads) = heads.lack
lacking_of (questions.Want entries) (answers.Need need) = blocks_in need.entries
lacking_of (questions.GiveBlock given) (answers.Taken taken) =
    if is_orphan taken.refused then block_hash given.block.header ∷ [] else []
lacking_of question answer = []

-- The block whose header alone was asked about, if the answer lists a missing block. A session asks
-- so about a compact block (BIP 152).
abbrev pub missing_in : Question → Answer → List Hash256
missing_in (questions.Headers (header ∷ [])) (answers.Heads heads) =
    if is_nil heads.lack then [] else block_hash header ∷ []
missing_in question answer = []

-- The hall was asked about the header of this block alone, and the block was missing.
abbrev pub tells_missing : Hash256 → Reply → Bool
tells_missing hash reply = has (missing_in reply.question reply.answer) hash

-- The hall listed this block as needed or as missing, or it was missing when the hall was asked
-- about its header alone.
abbrev pub tells_needed : Hash256 → Reply → Bool
tells_needed hash reply =
    has (needed_in reply.question reply.answer) hash || tells_missing hash reply

abbrev pub tells_lacking : Hash256 → Reply → Bool
tells_lacking hash reply =
    has (lacking_of reply.question reply.answer) hash || tells_missing hash reply

-- ---- compact blocks (BIP 152)

-- How a `sendcmpct` asks for blocks to be announced: as compact blocks, unasked, or not.
abbrev pub high_in : Message → Option Bool
high_in (messages.SendCmpct relay) = Some relay.high_bandwidth
high_in other = None

abbrev pub highs_in : List Message → List Bool
highs_in sent = filter_map high_in sent

-- Each differs from the one before it.
abbrev pub AreAlternating : List Bool → Type 0
AreAlternating [] = Unit {0}
AreAlternating (first ∷ []) = Unit {0}
AreAlternating (first ∷ (next ∷ others)) =
    (differ first next ≡ true) × AreAlternating (next ∷ others)
